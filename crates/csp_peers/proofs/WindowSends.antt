-- A router sends data of a flow only within the window that the flow's connection has then: of the flow's start, or of what a packet of the peer that it
-- heard acknowledged.
use Rattle.std.proofs.Common.{◌≡◌, ◌⊎◌, ℕ, pos, ◌+◌, ◌<◌, ◌≤◌, ◌==◌, ◌||◌, not, Bool, true, false, Option, None, Some, List, [], ◌∷◌, ◌++◌, refl, sym, ap, ◌∙◌, subst, arith}
use Rattle.std.specs.Prelude.{⊤, ℤ, ◌+ℤ◌, if◌then◌else◌}
use Rattle.std.specs.Option.{unwrap_or}
use Rattle.std.proofs.lemmas.Bool.{or_parts}
use Rattle.std.proofs.lemmas.List.{append_assoc}
use Rattle.csp_base.specs.declared.seat.Seat.{Seat}
use Rattle.csp_base.specs.Sequence.{number_of}
use Rattle.csp_base.specs.declared.traces.Tag.{Tag}
use Rattle.csp_base.proofs.Public.{wrapped_small}
use Rattle.csp_buffer.specs.Content.{Content}
use Rattle.csp_conn.specs.declared.slot.Connection.{Connection}
use Rattle.csp_deck.specs.Runs.{state_after, step_after}
use Rattle.csp_header.specs.Word.{header_at}
use Rattle.csp_header.specs.declared.word.Header.{Header}
use Rattle.csp_log.specs.declared.entry.Entry.{Entry}
use Rattle.csp_ports.specs.PlainPorts.{PlainPorts, machine_at, start_of, terms_at}
use Rattle.csp_ports.specs.Tasks.{made_in}
use Rattle.csp_rdp.specs.Jobs.{Says, head_for, job_of, says, tag_for}
use Rattle.csp_rdp.specs.Machine.{PlainRdp, una_of}
use Rattle.csp_rdp.specs.declared.jobs.Job.{Job}
use Rattle.csp_rdp_header.specs.Head.{has_flag, head_bytes, parted}
use Rattle.csp_rdp_header.specs.declared.head.RdpHead.{RdpHead}
use Rattle.csp_rdp_header.specs.declared.head.TheConstants.{ACK, RST, SYN}
use Rattle.csp_record.specs.Stale.{is_far, is_stale, is_stale_at, names}
use Rattle.csp_record.specs.declared.connections.Opening.{Opening}
use Rattle.csp_route.specs.Routes.{Routes}
use Rattle.csp_stack.specs.Config.{opening_state}
use Rattle.csp_stack.specs.Readings.{is_checked}
use Rattle.csp_stack.specs.Router.{Facts, Router, State, flows_of}
use Rattle.csp_stack.specs.Rules.{addressed, header_for}
use Rattle.csp_stack.specs.Sending.{protected}
use Rattle.csp_stack.specs.Turn.{asked_at, timed, told_at}
use Rattle.csp_prefix.specs.Flows.{Flows, is_data, with_checksum}
use Rattle.csp_prefix.specs.Ports.{Books, now_at}
use Rattle.csp_prefix.specs.Routers.{AreShown, HasNoStale, HearsGenuine, IsFlowOf, IsHeard, IsRouterLog, SendsOnly, opening_router, router_steps}
use Rattle.csp_prefix.specs.Slots.{Numbering}
use Rattle.csp_prefix.proofs.Public.{sender-says, ports_kept, Past, Tells, opening_on, checked_back, checked_flag, parted_back, unwrapped_is, none_stale, fed_tag, protected_trace, AreFound, opening_flow, sender_not, Aim, IsAim, IsPart, IsRead, unwrapped, each_comes, past, run_known}
use Rattle.csp_peers.specs.Window.{HadMachine}
use Rattle.csp_peers.proofs.WindowFacts.{Acknowledges, HasHeard, IsAck, IsAllowedData}
use Rattle.csp_peers.proofs.WindowMachine.{IsFedWell, IsKeeping, acknowledging, data-within, keeping-kept}

-- ---- the machines that owe something at a router's turns are those that it had

state_push : (s : Router) (es : List Entry) (e : Entry) → state_after router_steps s (es ++ e ∷ []) ≡ step_after router_steps (state_after router_steps s es) e
state_push s [] e = refl
state_push s (x ∷ es) e = state_push (step_after router_steps s x) es e

found_from : (f : Facts) (routes : Routes) (es before after : List Entry) (s : State) → es ≡ before ++ after → state_after router_steps (opening_router f routes) before ≡ record { facts = f; state = s } → AreFound (HadMachine f routes es) f s after
found_from f routes es before [] s whole at = tt
found_from f routes es before (e ∷ after) s whole at = (
  λ seat j few low owed. record {
    before = before;
    turn = e;
    after = after;
    whole = whole;
    seat = seat;
    there = ap (λ (r : Router). machine_at (timed r.state e.time).ports seat) at;
  },
  found_from f routes es (before ++ e ∷ []) after (told_at f (asked_at f s e.time) e.time e.answer).state (whole ∙ sym (append_assoc before (e ∷ []) after))
      (state_push (opening_router f routes) before e ∙ ap (λ (r : Router). step_after router_steps r e) at),
)

found_all : (f : Facts) (routes : Routes) (es : List Entry) → AreFound (HadMachine f routes es) f (opening_state f.apps routes) es
found_all f routes es = found_from f routes es [] es (opening_state f.apps routes) refl refl

-- ---- what is read of a packet is what it is filled with

-- one filling is another
filled_once : (has : Bool) (bytes other : List ℕ) (head another : RdpHead) → head.seq.0 < 65536 → head.ack.0 < 65536 → another.seq.0 < 65536 → another.ack.0 < 65536
    → with_checksum has (bytes ++ head_bytes head) ≡ with_checksum has (other ++ head_bytes another) → ◌≡◌ {A = List ℕ × RdpHead} (bytes, head) (other, another)
filled_once has bytes other head another seq ack seq' ack' e =
    let same : bytes ++ head_bytes head ≡ other ++ head_bytes another = unwrapped_is has (bytes ++ head_bytes head) (other ++ head_bytes another) (ap (unwrapped has) e ∙ back has) in
    let both : ◌≡◌ {A = Option (List ℕ × RdpHead)} (Some (bytes, head)) (Some (other, another)) = sym (parted_back bytes head seq ack) ∙ ap parted same ∙ parted_back other another seq' ack' in
    ap (λ (o : Option (List ℕ × RdpHead)). unwrap_or o (other, another)) both
  where
    back : (b : Bool) → unwrapped b (with_checksum b (other ++ head_bytes another)) ≡ Some (other ++ head_bytes another)
    back true = checked_back (other ++ head_bytes another)
    back false = refl

-- the head of what acknowledges
ack_read : (flows : Flows) (own : ℕ × ℕ) (cur : ℕ) (b : Content) (t : Tag) (payload : List ℕ) (read : List ℕ × RdpHead) → IsAck flows own cur b t → unwrapped (is_checked (header_at b.header)) b.payload ≡ Some payload → parted payload ≡ Some read
    → has_flag read.1 ACK ≡ true → has_flag read.1 RST ≡ false → read.1.ack.0 ≡ number_of (flows.start own) (pos t.ack)
ack_read flows own cur b t payload read x un q =
    let raw : List ℕ = x.bytes ++ head_bytes x.head in
    let same : raw ≡ payload = unwrapped_is (is_checked (header_at b.header)) raw payload (subst (λ bytes. unwrapped (is_checked (header_at b.header)) bytes ≡ Some payload) x.payload un) in
    let both : ◌≡◌ {A = Option (List ℕ × RdpHead)} (Some (x.bytes, x.head)) (Some read) = sym (parted_back x.bytes x.head x.seq_range x.ack_range) ∙ ap parted same ∙ q in
    let is : (x.bytes, x.head) ≡ read = ap (λ (o : Option (List ℕ × RdpHead)). unwrap_or o read) both in
    subst (λ (p : List ℕ × RdpHead). has_flag p.1 ACK ≡ true → has_flag p.1 RST ≡ false → p.1.ack.0 ≡ number_of (flows.start own) (pos t.ack)) is x.number

-- what is not stale has a tag that acknowledges an index not far from una
near_tag : (o : Option Tag) (flow : ℕ × ℕ) (cur una : ℕ) (t : Tag) → o ≡ Some t → is_stale_at (Some flow) o cur una ≡ false → is_far t.ack una ≡ false
near_tag None flow cur una t is e = absurd cc
near_tag (Some u) flow cur una t is e =
    let same : u ≡ t = ap (λ (o : Option Tag). unwrap_or o t) is in
    let outer = or_parts (not (names u flow) || is_far u.index cur) (is_far u.ack una) e in
    subst (λ (v : Tag). is_far v.ack una ≡ false) same outer.1

-- ---- the heads that are made are of sixteen bits

number_low : (start : ℕ) (t : ℤ) → number_of start t < 65536
number_low start t = wrapped_small (pos start +ℤ t)

ack_low : (t : Bool) (n : ℕ) → n < 65536 → (if t then 0 else n) < 65536
ack_low true n lt = omega arith
ack_low false n lt = lt

checksum_of : (has : Bool) (b : Content) → (protected has b).payload ≡ with_checksum has b.payload
checksum_of true b = refl
checksum_of false b = refl

-- ---- what is to be known of the connections of a router, and of the packets that it makes

abbrev window_aim : Facts → Routes → List Entry → (own peer : ℕ × ℕ) → Aim
window_aim f routes es own peer = record {
  is = IsKeeping (flows_of f) (HasHeard es peer) own.1 peer;
  coming = acknowledging (flows_of f) (HasHeard es peer) own.1 peer;
  over = λ m app x down. ⊤;
  good = IsAllowedData f routes es own peer;
  hears = IsHeard es;
  comes = λ i. ⊤;
  fresh = λ e. is_stale e ≡ false;
  at = HadMachine f routes es;
}

-- a packet without a tag carries no data
untagged : (f : Facts) (routes : Routes) (es : List Entry) (own peer : ℕ × ℕ) (b : Content) → b.trace.tag ≡ None → IsAllowedData f routes es own peer b
untagged f routes es own peer b none t filling of = absurd (let bad : ◌≡◌ {A = Option Tag} None (Some t) = sym none ∙ filling.tagged in cc)

module _ (f : Facts) (routes : Routes) (es : List Entry) (flows : Flows) (own peer : ℕ × ℕ) (cur : ℕ) (shown : AreShown f es flows) (here : own.0 ≡ f.node)
    (peers : (app : ℕ) (y : Opening) → IsFlowOf es app own.1 y → y.peer ≡ Some peer) (acks : (b : Content) → IsHeard es b → Acknowledges flows peer own cur b) where
  starts : flows.start own ≡ start_of f.seed own.1
  starts = ap (λ k. flows.start (k, own.1)) here ∙ shown.start own.1

  -- what is handed to the flow's connection is of its peer, and acknowledges what its tag says
  fed_well : (b : Content) (payload : List ℕ) (r : PlainRdp) (read : List ℕ × RdpHead) → IsHeard es b → IsRead f b payload read → is_stale_at r.peer b.trace.tag r.recv.cur (una_of r) ≡ false → r.nth ≡ own.1 → r.peer ≡ Some peer
      → IsFedWell (HasHeard es peer) (start_of f.seed r.nth) r read.1
  fed_well b payload r read heard was fresh nth of =
      let clear : is_stale_at (Some peer) b.trace.tag r.recv.cur (una_of r) ≡ false = subst (λ p. is_stale_at p b.trace.tag r.recv.cur (una_of r) ≡ false) of fresh in
      let tag = fed_tag b.trace.tag peer r.recv.cur (una_of r) clear in
      let same : flows.start own ≡ start_of f.seed r.nth = starts ∙ ap (start_of f.seed) (sym nth) in
      record {
        tag = tag.0;
        is = record { packet = b; heard = heard; tagged = tag.1; of = tag.2 };
        near = near_tag b.trace.tag peer r.recv.cur (una_of r) tag.0 tag.1 clear;
        number = λ ack rst. ack_read flows own cur b tag.0 payload read (acks b heard tag.0 tag.1 tag.2) was.is_unwrapped was.is_parted ack rst ∙ ap (λ s. number_of s (pos tag.0.ack)) same;
      }

  makes_allowed : (h : Past) (m : Numbering) (books : Books) (p : PlainPorts) (seat : Seat) (time : ℕ) (j : Job) (b : Content) (c : Connection) → IsPart h (past es) → Tells (window_aim f routes es own peer).over f.apps m h books
      → IsKeeping (flows_of f) (HasHeard es peer) own.1 peer m seat (now_at p books seat) → HadMachine f routes es (machine_at p seat) → job_of time (machine_at p seat) ≡ Some j
      → IsAllowedData f routes es own peer (addressed f c (terms_at p seat) (made_in j time seat b p))
  makes_allowed h m books p seat time j b c part tells is had owed t filling of =
      let r : PlainRdp = machine_at p seat in
      let s : Says = says j time r in
      let head : RdpHead = head_for s r in
      let x : Content = made_in j time seat b p in
      let hdr : Header = header_for f c (terms_at p seat) in
      let tags : ◌≡◌ {A = Option Tag} (Some (tag_for s r)) (Some t) = ap (λ t. t.tag) (sym (protected_trace (is_checked hdr) x)) ∙ filling.tagged in
      let tag_is : tag_for s r ≡ t = ap (λ (o : Option Tag). unwrap_or o (tag_for s r)) tags in
      let index : s.index ≡ t.index = ap (λ (u : Tag). u.index) tag_is in
      let nth : r.nth ≡ own.1 = ap (λ (u : Tag). u.nth) tag_is ∙ ap (λ (k : ℕ × ℕ). k.1) of in
      let made : (addressed f c (terms_at p seat) x).payload ≡ with_checksum (is_checked (header_at (addressed f c (terms_at p seat) x).header)) (s.bytes ++ head_bytes head) =
      checksum_of (is_checked hdr) x ∙ ap (λ t. with_checksum t (s.bytes ++ head_bytes head)) (sym (checked_flag hdr)) in
      let filled : ◌≡◌ {A = List ℕ × RdpHead} (s.bytes, head) (filling.bytes, filling.head) =
      filled_once (is_checked (header_at (addressed f c (terms_at p seat) x).header)) s.bytes filling.bytes head filling.head
      (number_low r.send.start (pos s.index)) (ack_low (s.flags == SYN) (number_of r.recv.start (pos s.ack)) (number_low r.recv.start (pos s.ack))) filling.seq_range filling.ack_range (sym made ∙ filling.payload) in
      let carries : is_data head s.bytes ≡ true = subst (λ (k : List ℕ × RdpHead). is_data k.1 k.0 ≡ true) (sym filled) filling.is_data in
      let told = (sender-says (flows_of f) m seat (now_at p books seat) time j is.0 owed).carries carries in
      let y : Opening = opening_on seat (h.ends seat) (Some r.nth, r.peer) in
      let flow : IsFlowOf es seat.app r.nth y = opening_flow es h seat.app r.nth y part (tells.back seat (Some r.nth, r.peer) told.3.opened) refl in
      let with_peer : r.peer ≡ Some peer = peers seat.app y (subst (λ k. IsFlowOf es seat.app k y) nth flow) in
      record {
        machine = r;
        had = had;
        numbered = nth;
        met = with_peer;
        within = subst (λ i. (i ≤ r.send.window) ⊎ ((t : Tag) × HasHeard es peer t × (i ≤ t.ack + r.send.window))) index (data-within (HasHeard es peer) own.1 peer j time r is.1 nth with_peer carries);
      }

  window_is_aim : IsAim (window_aim f routes es own peer) f (past es)
  window_is_aim = record {
    ports = ports_kept (flows_of f) (acknowledging (flows_of f) (HasHeard es peer) own.1 peer) (IsKeeping (flows_of f) (HasHeard es peer) own.1 peer) (keeping-kept (flows_of f) (HasHeard es peer) own.1 peer);
    ended = λ m s n how is e. tt;
    plain = λ m s ordinal down. tt;
    grows = λ m m' app x down on over. tt;
    never_plain = λ m s n is e. sender_not n.machine.state (flows_of f) m s n is.0 e;
    unmarked = λ mark b e none comes. untagged f routes es own peer b none;
    unreliable = λ b none plain. untagged f routes es own peer b none;
    wishes = λ p r comes reliable own chosen. tt;
    makes = λ h m books p s time j b c part tells o there is had job. makes_allowed h m books p s time j b c part tells is had job;
    feeds = λ b payload r read heard was fresh nth of. fed_well b payload r read heard was fresh nth of;
    asks = λ b payload read heard was syn. tt;
  }

-- ---- so it is with the log of a router
pub data_allowed : (f : Facts) (routes : Routes) (es : List Entry) (flows : Flows) (own peer : ℕ × ℕ) (cur : ℕ) → IsRouterLog f routes es → AreShown f es flows → own.0 ≡ f.node
    → ((app : ℕ) (y : Opening) → IsFlowOf es app own.1 y → y.peer ≡ Some peer) → HasNoStale es → HearsGenuine flows es → ((b : Content) → IsHeard es b → Acknowledges flows peer own cur b)
    → SendsOnly (IsAllowedData f routes es own peer) es
data_allowed f routes es flows own peer cur log shown here peers none genuine acks =
    let g : Aim = window_aim f routes es own peer in
    (run_known g f routes es (window_is_aim f routes es flows own peer cur shown here peers acks) log (λ at mark b q. record { at = at; mark = mark; there = q }) (each_comes g (λ i. tt) es) (none_stale es none) (found_all f routes es)).pushed
