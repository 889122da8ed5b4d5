-- What a router makes of its own: each packet names its node, and acknowledges no more of its peer's flow than its connection has delivered, by the number of that index.
use Rattle.std.proofs.Common.{◌≡◌, ◌≢◌, ℕ, pos, ◌<◌, ◌≤◌, ◌==◌, Bool, true, false, Option, None, Some, List, ◌++◌, refl, sym, ap, ◌∙◌, subst, arith}
use Rattle.std.specs.Prelude.{⊤, if◌then◌else◌, ℤ, ◌+ℤ◌}
use Rattle.std.specs.Option.{unwrap_or}
use Rattle.csp_base.specs.declared.seat.Seat.{Seat}
use Rattle.csp_base.proofs.Public.{wrapped_small}
use Rattle.csp_base.specs.Sequence.{number_of}
use Rattle.csp_base.specs.declared.traces.Tag.{Tag}
use Rattle.csp_buffer.specs.Content.{Content}
use Rattle.csp_conn.specs.declared.slot.Connection.{Connection}
use Rattle.csp_header.specs.declared.word.Header.{Header}
use Rattle.csp_log.specs.declared.entry.Entry.{Entry}
use Rattle.csp_log.specs.declared.places.QueueId.TheVariants as queue
use Rattle.csp_log.specs.declared.shown.ItemShown.TheVariants as item
use Rattle.csp_ports.specs.PlainPorts.{PlainPorts, machine_at, terms_at}
use Rattle.csp_ports.specs.Tasks.{made_in}
use Rattle.csp_ports.specs.declared.flows.OwnFlows.{OwnFlows}
use Rattle.csp_rdp.specs.Jobs.{Says, ack_number, head_for, job_in, job_of, is_syn_due, says, syn_in, tag_for}
use Rattle.csp_rdp.specs.Machine.{PlainRdp, una_of}
use Rattle.csp_rdp.specs.declared.answers.State.{State}
use Rattle.csp_rdp.specs.declared.answers.State.TheVariants.{Closed, SynSent, SynRcvd, Open, CloseWait}
use Rattle.csp_rdp.specs.declared.jobs.Job.{Job}
use Rattle.csp_rdp.specs.declared.jobs.Job.TheVariants as job
use Rattle.csp_rdp_header.specs.Head.{has_flag, head_bytes}
use Rattle.csp_rdp_header.specs.declared.head.RdpHead.{RdpHead}
use Rattle.csp_rdp_header.specs.declared.head.TheConstants.{ACK, RST, SYN}
use Rattle.csp_prefix.specs.Flows.{Flows, IsGenuine, with_checksum}
use Rattle.csp_prefix.specs.Machines.{IsFed, IsReceiver, IsSender, ReceivesIn, true_packets, whatever}
use Rattle.csp_prefix.specs.Slots.{IsKept, Now, Numbering}
use Rattle.csp_prefix.proofs.Public.{hears-handed, sender-kept, delivers-both, delivers-open, goes-kept-again, goes-rested, goes-sent, ways-closing, ways-ticked, receiver-kept, ports_kept, all_at, checked_flag, none_stale, fed_tag, read_true, protected_trace, AreFound, found_any, all_fresh, sender_not, Aim, IsAim, IsRead, each_comes, past, run_known}
use Rattle.csp_prefix.specs.Ports.{Books, now_at}
use Rattle.csp_prefix.specs.Routers.{AreShown, HasNoStale, HearsGenuine, IsGenuineItem, IsHeard, IsRouterLog, SendsOnly}
use Rattle.csp_consistent.specs.Reading.{gets}
use Rattle.csp_record.specs.Stale.{is_stale, is_stale_at}
use Rattle.csp_route.specs.Routes.{Routes}
use Rattle.csp_stack.specs.Config.{opening_state}
use Rattle.csp_stack.specs.Readings.{is_checked}
use Rattle.csp_stack.specs.Router.{Facts, flows_of}
use Rattle.csp_stack.specs.Rules.{addressed, header_for}
use Rattle.csp_stack.specs.Sending.{protected}
use Rattle.csp_peers.proofs.PacketsMade.{sends_good}
use Rattle.csp_peers.proofs.RouterNear.{both_come, both-kept}
use Rattle.csp_peers.proofs.WindowFacts.{Acknowledges, IsAck, IsBefore}
use Rattle.csp_peers.proofs.SenderBounds.{own-delivered, own-heard, own-ways}

-- ---- a connection has the node of its maker

-- what is known of a reliable connection whose packets name the node
abbrev pub IsOwner : OwnFlows → Numbering → Seat → Now → Type 0
IsOwner o m s n = IsSender o m s n × (n.machine.node ≡ o.node)

-- it is kept by each step
pub owner-kept : (o : OwnFlows) → IsKept o whatever (IsOwner o)
owner-kept o = record {
  grows = λ m later s n g i. ((sender-kept o).grows m later s n g i.0, i.1);
  connects = λ m s ordinal time c flags home asked. ((sender-kept o).connects m s ordinal time c flags home tt, refl);
  accepts = λ m s ordinal time c flags h tag options home syn invited. ((sender-kept o).accepts m s ordinal time c flags h tag options home syn tt, refl);
  early = λ m s n i e. (sender-kept o).early m s n i.0 e;
  never = λ m s n i e. (sender-kept o).never m s n i.0 e;
  rests = λ m s n i. ((sender-kept o).rests m s n i.0, (goes-rested n.machine).own.node ∙ i.1);
  ticks = λ m s n time i. ((sender-kept o).ticks m s n time i.0, (own-ways n.machine _ (ways-ticked time n.machine)).node ∙ i.1);
  closes = λ m s n time i. ((sender-kept o).closes m s n time i.0, (own-ways n.machine _ (ways-closing time n.machine)).node ∙ i.1);
  makes = λ m s n time j job i. ((sender-kept o).makes m s n time j job i.0, (goes-sent j time n.machine).own.node ∙ i.1);
  hears = λ m s n h tag b time fed shut i. ((sender-kept o).hears m s n h tag b time tt shut i.0, (own-heard h tag b n.machine _ (hears-handed h tag b time n.machine)).node ∙ i.1);
  opens = λ m s n h tag b time fed opening i. ((sender-kept o).opens m s n h tag b time tt opening i.0, (own-heard h tag b n.machine _ (hears-handed h tag b time n.machine)).node ∙ i.1);
  admits = λ m s n b time is_open room waits i. ((sender-kept o).admits m s n b time is_open room waits i.0, i.1);
  delays = λ m s n payload is_open waits i. ((sender-kept o).delays m s n payload is_open waits i.0, i.1);
  settles = λ m s n b time is_open room waits i. ((sender-kept o).settles m s n b time is_open room waits i.0, i.1);
  drops = λ m s n shut i. ((sender-kept o).drops m s n shut i.0, i.1);
  delivers = λ m s n b time e i. (
    (sender-kept o).delivers m s n b time e i.0,
    (own-delivered _ n.machine _ (delivers-both time n.machine (delivers-open n.machine.state n.machine b e))).node ∙ i.1,
  );
  keeps = λ m s n b c e same i. (
    (sender-kept o).keeps m s n b c e same i.0,
    (goes-kept-again c n.machine (delivers-open n.machine.state n.machine b e)).own.node ∙ i.1,
  );
}

-- ---- each packet that a router makes of its own names its node

-- a packet has no tag, or one of this node
abbrev pub NamesNode : Facts → Content → Type 0
NamesNode f b = (t : Tag) → b.trace.tag ≡ Some t → t.node ≡ f.node

-- a packet without a tag says nothing by one
untagged : (P : Tag → Type 0) (b : Content) → b.trace.tag ≡ None → (t : Tag) → b.trace.tag ≡ Some t → P t
untagged P b none t e = absurd (let both : ◌≡◌ {A = Option Tag} None (Some t) = sym none ∙ e in cc)

-- the tag of a packet that is made
made_tag : (f : Facts) (c : Connection) (p : PlainPorts) (seat : Seat) (time : ℕ) (j : Job) (b : Content) (t : Tag) → (addressed f c (terms_at p seat) (made_in j time seat b p)).trace.tag ≡ Some t
    → tag_for (says j time (machine_at p seat)) (machine_at p seat) ≡ t
made_tag f c p seat time j b t e =
    let r : PlainRdp = machine_at p seat in
    let s : Says = says j time r in
    let x : Content = made_in j time seat b p in
    let tags : ◌≡◌ {A = Option Tag} (Some (tag_for s r)) (Some t) = sym (ap (λ k. k.tag) (protected_trace (is_checked (header_for f c (terms_at p seat))) x)) ∙ e in
    ap (λ (o : Option Tag). unwrap_or o (tag_for s r)) tags

-- what is to be known of a router's connections, that its packets name its node
abbrev owner_aim : Facts → List Entry → Aim
owner_aim f es = record {
  is = IsOwner (flows_of f);
  coming = whatever;
  over = λ m app x down. ⊤;
  good = NamesNode f;
  hears = IsHeard es;
  comes = λ i. ⊤;
  fresh = λ e. ⊤;
  at = λ r. ⊤;
}

owner_is_aim : (f : Facts) (es : List Entry) → IsAim (owner_aim f es) f (past es)
owner_is_aim f es = record {
  ports = ports_kept (flows_of f) whatever (IsOwner (flows_of f)) (owner-kept (flows_of f));
  ended = λ m s n how is e. tt;
  plain = λ m s ordinal down. tt;
  grows = λ m m' app x down on over. tt;
  never_plain = λ m s n is e. sender_not n.machine.state (flows_of f) m s n is.0 e;
  unmarked = λ mark b e none comes. untagged (λ t. t.node ≡ f.node) b none;
  unreliable = λ b none plain. untagged (λ t. t.node ≡ f.node) b none;
  wishes = λ p r comes reliable own chosen. tt;
  makes = λ h m books p s time j b c part tells o there is found job t e. ap (λ (k : Tag). k.node) (sym (made_tag f c p s time j b t e)) ∙ is.1;
  feeds = λ b payload r read heard known fresh. tt;
  asks = λ b payload read heard known syn. tt;
}

-- the others go out as they were heard
pub owns_tags : (f : Facts) (routes : Routes) (es : List Entry) → IsRouterLog f routes es → SendsOnly (λ b. (t : Tag) → b.trace.tag ≡ Some t → t.node ≡ f.node) es
owns_tags f routes es log =
    let g : Aim = owner_aim f es in
    let run = run_known g f routes es (owner_is_aim f es) log (λ at mark b e. record { at = at; mark = mark; there = e }) (each_comes g (λ i. tt) es) (all_fresh es) (found_any f (opening_state f.apps routes) es) in
    sends_good g es es (λ b h. h) run.pushed

-- ---- what a packet acknowledges, by its number

-- where a packet acknowledges anything, its number is that of the index, counted from the start of the receive window
syn_number : (s : State) (r : PlainRdp) → has_flag (head_for (syn_in s r) r) ACK ≡ true → ack_number (syn_in s r) r ≡ number_of r.recv.start (pos (syn_in s r).ack)
syn_number SynSent r e = absurd cc
syn_number SynRcvd r e = refl
syn_number Open r e = refl
syn_number CloseWait r e = refl
syn_number Closed r e = refl

says_number : (j : Job) (time : ℕ) (r : PlainRdp) → has_flag (head_for (says j time r) r) ACK ≡ true → ack_number (says j time r) r ≡ number_of r.recv.start (pos (says j time r).ack)
says_number job.Rst time r e = refl
says_number job.Syn time r e = syn_number r.state r e
says_number job.Deliver time r e = refl
says_number job.Eak time r e = refl
says_number job.Data time r e = refl
says_number job.Ack time r e = refl

-- and the index is at most as far as was delivered
syn_far : (s : State) (r : PlainRdp) → (syn_in s r).ack ≤ r.recv.cur
syn_far SynSent r = omega arith
syn_far SynRcvd r = omega arith
syn_far Open r = omega arith
syn_far CloseWait r = omega arith
syn_far Closed r = omega arith

says_far : (j : Job) (time : ℕ) (r : PlainRdp) → (says j time r).ack ≤ r.recv.cur
says_far job.Rst time r = omega arith
says_far job.Syn time r = syn_far r.state r
says_far job.Deliver time r = omega arith
says_far job.Eak time r = omega arith
says_far job.Data time r = omega arith
says_far job.Ack time r = omega arith

-- the opening packet acknowledges nothing
opening_silent : (s : State) (r : PlainRdp) → s ≡ SynSent → has_flag (head_for (syn_in s r) r) ACK ≡ true → ⊥
opening_silent SynSent r e f = cc
opening_silent SynRcvd r e f = cc
opening_silent Open r e f = cc
opening_silent CloseWait r e f = cc
opening_silent Closed r e f = cc

-- and before its answer nothing else is said but a reset
first_job : (due : Bool) (j : Job) → (if due then Some job.Syn else None) ≡ Some j → j ≡ job.Syn
first_job true j e = let same : job.Syn ≡ j = cc in sym same
first_job false j e = absurd cc

module _ (flows : Flows) (peer : ℕ × ℕ) (n : Now) (time : ℕ) (j : Job) where
  -- the head of the packet
  abbrev said_head : RdpHead
  said_head = head_for (says j time n.machine) n.machine

  -- by state: the peer's start is that of the receive window
  start_in : (s : State) → n.machine.state ≡ s → ReceivesIn s flows n → (n.machine.state ≢ SynSent → n.machine.peer ≡ Some peer) → job_in s time n.machine ≡ Some j → has_flag said_head ACK ≡ true
      → n.machine.recv.start ≡ flows.start peer
  start_in SynSent e i known owed acks =
      let is = first_job (is_syn_due time n.machine) j owed in
      absurd (opening_silent n.machine.state n.machine e (subst (λ k. has_flag (head_for (says k time n.machine) n.machine) ACK ≡ true) is acks))
  start_in SynRcvd e i known owed acks = i.3 peer (known (λ f. let both : SynRcvd ≡ SynSent = sym e ∙ f in cc))
  start_in Open e i known owed acks = i.2 peer (known (λ f. let both : Open ≡ SynSent = sym e ∙ f in cc))
  start_in CloseWait e i known owed acks = absurd cc
  start_in Closed e i known owed acks = absurd cc

  -- whatever is owed, but a reset
  start_for : (rst : Bool) → (if rst then Some job.Rst else job_in n.machine.state time n.machine) ≡ Some j → ReceivesIn n.machine.state flows n → (n.machine.state ≢ SynSent → n.machine.peer ≡ Some peer)
      → has_flag said_head ACK ≡ true → has_flag said_head RST ≡ false → n.machine.recv.start ≡ flows.start peer
  start_for true owed i known acks none =
      let is : job.Rst ≡ j = cc in
      absurd (subst (λ k. has_flag (head_for (says k time n.machine) n.machine) RST ≡ false → ⊥) is (λ e. cc) none)
  start_for false owed i known acks none = start_in n.machine.state refl i known owed acks

  -- a packet that acknowledges, and is no reset, does so by the number that the peer's flow has for the index
  says_acked : job_of time n.machine ≡ Some j → ReceivesIn n.machine.state flows n → (n.machine.state ≢ SynSent → n.machine.peer ≡ Some peer)
      → has_flag said_head ACK ≡ true → has_flag said_head RST ≡ false → said_head.ack.0 ≡ number_of (flows.start peer) (pos (says j time n.machine).ack)
  says_acked owed i known acks none =
      says_number j time n.machine acks ∙ ap (λ k. number_of k (pos (says j time n.machine).ack)) (start_for n.machine.owed.rst owed i known acks none)

-- ---- what a router's connection acknowledges

-- both numbers of a head are of sixteen bits
number_small : (start : ℕ) (t : ℤ) → number_of start t < 65536
number_small start t = wrapped_small (pos start +ℤ t)

ack_small : (is_opening : Bool) (k : ℕ) → k < 65536 → (if is_opening then 0 else k) < 65536
ack_small true k low = omega arith
ack_small false k low = low

-- the payload has a checksum where the header says so
protected_payload : (has : Bool) (b : Content) → (protected has b).payload ≡ with_checksum has b.payload
protected_payload true b = refl
protected_payload false b = refl

-- what is to be known of a router's connections, and of the packets of that with the number of the last machine
abbrev acker_aim : Facts → List Entry → Flows → PlainRdp → ℕ × ℕ → Aim
acker_aim f es flows last peer = record {
  is = λ m s n. IsOwner (flows_of f) m s n × IsReceiver flows m s n;
  coming = both_come whatever (true_packets flows);
  over = λ m app x down. ⊤;
  good = Acknowledges flows (f.node, last.nth) peer last.recv.cur;
  hears = λ b. IsHeard es b × IsGenuine flows b;
  comes = λ i. ⊤;
  fresh = λ e. is_stale e ≡ false;
  at = IsBefore last;
}

module _ (f : Facts) (es : List Entry) (flows : Flows) (last : PlainRdp) (peer : ℕ × ℕ) (peered : last.peer ≡ Some peer) where
  -- what its machine makes
  makes_ack : (p : PlainPorts) (books : Books) (seat : Seat) (time : ℕ) (j : Job) (b : Content) (c : Connection) → ReceivesIn (machine_at p seat).state flows (now_at p books seat) → IsBefore last (machine_at p seat)
      → job_of time (machine_at p seat) ≡ Some j → Acknowledges flows (f.node, last.nth) peer last.recv.cur (addressed f c (terms_at p seat) (made_in j time seat b p))
  makes_ack p books seat time j b c is found owed t e of =
      let r : PlainRdp = machine_at p seat in
      let s : Says = says j time r in
      let x : Content = made_in j time seat b p in
      let hdr : Header = header_for f c (terms_at p seat) in
      let tag_is : tag_for s r ≡ t = made_tag f c p seat time j b t e in
      let nth : r.nth ≡ last.nth = ap (λ (k : Tag). k.nth) tag_is ∙ ap (λ (k : ℕ × ℕ). k.1) of in
      let before = found nth in
      subst (λ k. IsAck flows peer last.recv.cur (addressed f c (terms_at p seat) x) k) tag_is (record {
        far = let acked = says_far j time r in let cur = before.0 in omega (arith, acked, cur);
        head = head_for s r;
        bytes = s.bytes;
        seq_range = number_small r.send.start (pos s.index);
        ack_range = ack_small (s.flags == SYN) (number_of r.recv.start (pos s.ack)) (number_small r.recv.start (pos s.ack));
        payload = protected_payload (is_checked hdr) x ∙ ap (λ has. with_checksum has (s.bytes ++ head_bytes (head_for s r))) (sym (checked_flag hdr));
        number = λ acks none. says_acked flows peer (now_at p books seat) time j owed is (λ past_opening. before.1 past_opening ∙ peered) acks none;
      })

  -- what is handed to a connection is of its peer
  fed_so : (b : Content) (payload : List ℕ) (r : PlainRdp) (read : List ℕ × RdpHead) → IsGenuine flows b → IsRead f b payload read → is_stale_at r.peer b.trace.tag r.recv.cur (una_of r) ≡ false → IsFed flows r read.1 b.trace.tag read.0
  fed_so b payload r read genuine was fresh = record {
    genuine = λ t e. read_true flows b payload read t (genuine t e) was.is_unwrapped was.is_parted;
    peer = λ flow e. fed_tag b.trace.tag flow r.recv.cur (una_of r) (subst (λ o. is_stale_at o b.trace.tag r.recv.cur (una_of r) ≡ false) e fresh);
  }

  acker_is_aim : IsAim (acker_aim f es flows last peer) f (past es)
  acker_is_aim = record {
    ports = ports_kept (flows_of f) (both_come whatever (true_packets flows)) (acker_aim f es flows last peer).is
        (both-kept (flows_of f) whatever (true_packets flows) (IsOwner (flows_of f)) (IsReceiver flows) (owner-kept (flows_of f)) (receiver-kept (flows_of f) flows));
    ended = λ m s n how is e. tt;
    plain = λ m s ordinal down. tt;
    grows = λ m m' app x down on over. tt;
    never_plain = λ m s n is e. sender_not n.machine.state (flows_of f) m s n is.0.0 e;
    unmarked = λ mark b e none comes t q. absurd (untagged (λ t. ⊥) b none t q);
    unreliable = λ b none plain t q. absurd (untagged (λ t. ⊥) b none t q);
    wishes = λ p r comes reliable own chosen. (tt, tt);
    makes = λ h m books p s time j b c part tells o there is found owed. makes_ack p books s time j b c is.1 found owed;
    feeds = λ b payload r read heard was fresh. (tt, fed_so b payload r read heard.1 was fresh);
    asks = λ b payload read heard was syn. (tt, λ t e. (read_true flows b payload read t (heard.1 t e) was.is_unwrapped was.is_parted).syn syn);
  }

-- where a router hears genuine packets alone, of which none was stale, each packet that the connection with the last machine's number made, while its machine was one
-- before that, acknowledges no more than the last has delivered; and where it acknowledges without a reset, by the number that the peer's flow has for the index in its tag
pub acks_sent : (f : Facts) (routes : Routes) (es : List Entry) (flows : Flows) (last : PlainRdp) (peer : ℕ × ℕ) → IsRouterLog f routes es → AreShown f es flows → HearsGenuine flows es → HasNoStale es → last.peer ≡ Some peer
    → AreFound (IsBefore last) f (opening_state f.apps routes) es → SendsOnly (Acknowledges flows (f.node, last.nth) peer last.recv.cur) es
acks_sent f routes es flows last peer log shown hears none peered found =
    let g : Aim = acker_aim f es flows last peer in
    let run = run_known g f routes es (acker_is_aim f es flows last peer peered) log
    (λ at mark b e. (record { at = at; mark = mark; there = e }, all_at (IsGenuineItem flows) (gets queue.Inbox es) at (item.Packet mark b) hears e)) (each_comes g (λ i. tt) es) (none_stale es none) found in
    sends_good g es es (λ b h. h.0) run.pushed
