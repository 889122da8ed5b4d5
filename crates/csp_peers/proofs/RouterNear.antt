-- What a router's connections hear, and what they say then: where each packet of the reliable transport that is handed to one is of its peer's flow, each
-- stands near its peer, and acknowledges no more than that flow has.
use Rattle.std.proofs.Common.{◌≡◌, ℕ, ◌<◌, ◌≤◌, ◌==◌, ◌||◌, Bool, true, false, Option, None, Some, List, length, refl, sym, ap, ◌∙◌, subst, arith}
use Rattle.std.specs.Prelude.{⊤}
use Rattle.std.specs.Option.{unwrap_or}
use Rattle.csp_base.specs.declared.seat.Seat.{Seat}
use Rattle.csp_base.specs.declared.traces.Tag.{Tag}
use Rattle.csp_buffer.specs.Content.{Content}
use Rattle.csp_conn.specs.declared.slot.Connection.{Connection}
use Rattle.csp_header.specs.Word.{header_at}
use Rattle.csp_log.specs.declared.entry.Entry.{Entry}
use Rattle.csp_ports.specs.PlainPorts.{PlainPorts, machine_at, terms_at}
use Rattle.csp_ports.specs.Tasks.{made_in}
use Rattle.csp_ports.specs.declared.flows.OwnFlows.{OwnFlows}
use Rattle.csp_rdp.specs.Jobs.{Says, job_of, says, tag_for}
use Rattle.csp_rdp.specs.Machine.{PlainRdp, flow_of}
use Rattle.csp_rdp.specs.declared.jobs.Job.{Job}
use Rattle.csp_ports.specs.Asking.{is_reliable}
use Rattle.csp_stack.specs.Readings.{is_checked}
use Rattle.csp_stack.specs.Router.{Facts, flows_of}
use Rattle.csp_stack.specs.Rules.{addressed, connection_of, header_for}
use Rattle.std.proofs.lemmas.Bool.{eqb-true}
use Rattle.csp_rdp_header.specs.declared.head.RdpHead.{RdpHead}
use Rattle.csp_prefix.specs.Flows.{Flows, IsGenuine, IsTrueOf}
use Rattle.csp_prefix.specs.Ports.{Books, now_at}
use Rattle.csp_prefix.specs.Slots.{Coming, IsKept, Now, Numbering}
use Rattle.csp_prefix.proofs.Public.{ports_kept, read_true, protected_trace, sender_not, Aim, IsAim, IsRead, past}
use Rattle.csp_peers.specs.Nearness.{AreShort, HasOnePeer, IsHearer, IsMaker, addressable, half, of_peers}
use Rattle.csp_peers.specs.Unforged.{ComesWell}
use Rattle.csp_peers.proofs.ReceiverNear.{hearer-kept}
use Rattle.csp_peers.proofs.RouterMakes.{AllowsOne, IsFromBelow, asked_addressable, heard_addressable}
use Rattle.csp_peers.proofs.SenderBounds.{maker-kept, maker-says}

-- ---- two things that are known of the connections of a node are known together

abbrev pub both_come : Coming → Coming → Coming
both_come C D = record {
  fed = λ c r h tag bytes. C.fed c r h tag bytes × D.fed c r h tag bytes;
  invites = λ c flags h tag. C.invites c flags h tag × D.invites c flags h tag;
  asked = λ c flags. C.asked c flags × D.asked c flags;
}

pub both-kept : (o : OwnFlows) (C D : Coming) (Is Js : Numbering → Seat → Now → Type 0) → IsKept o C Is → IsKept o D Js → IsKept o (both_come C D) (λ m s n. Is m s n × Js m s n)
both-kept o C D Is Js k l = record {
  grows = λ m later s n g i. (k.grows m later s n g i.0, l.grows m later s n g i.1);
  connects = λ m s ordinal time c flags home asked. (k.connects m s ordinal time c flags home asked.0, l.connects m s ordinal time c flags home asked.1);
  accepts = λ m s ordinal time c flags h tag options home syn invited.
      (k.accepts m s ordinal time c flags h tag options home syn invited.0, l.accepts m s ordinal time c flags h tag options home syn invited.1);
  early = λ m s n i e. k.early m s n i.0 e;
  never = λ m s n i e. k.never m s n i.0 e;
  rests = λ m s n i. (k.rests m s n i.0, l.rests m s n i.1);
  ticks = λ m s n time i. (k.ticks m s n time i.0, l.ticks m s n time i.1);
  closes = λ m s n time i. (k.closes m s n time i.0, l.closes m s n time i.1);
  makes = λ m s n time j job i. (k.makes m s n time j job i.0, l.makes m s n time j job i.1);
  hears = λ m s n h tag b time fed shut i. (k.hears m s n h tag b time fed.0 shut i.0, l.hears m s n h tag b time fed.1 shut i.1);
  opens = λ m s n h tag b time fed opening i. (k.opens m s n h tag b time fed.0 opening i.0, l.opens m s n h tag b time fed.1 opening i.1);
  admits = λ m s n b time is_open room waits i. (k.admits m s n b time is_open room waits i.0, l.admits m s n b time is_open room waits i.1);
  delays = λ m s n payload is_open waits i. (k.delays m s n payload is_open waits i.0, l.delays m s n payload is_open waits i.1);
  settles = λ m s n b time is_open room waits i. (k.settles m s n b time is_open room waits i.0, l.settles m s n b time is_open room waits i.1);
  drops = λ m s n shut i. (k.drops m s n shut i.0, l.drops m s n shut i.1);
  delivers = λ m s n b time e i. (k.delivers m s n b time e i.0, l.delivers m s n b time e i.1);
  keeps = λ m s n b c e same i. (k.keeps m s n b c e same i.0, l.keeps m s n b c e same i.1);
}

-- ---- what of packets is heard, that they are handed to the connections of their flows

-- a packet of the reliable transport that is for this node, by the relation of connections and their peers: it has a tag, what it says is true of the
-- tag's flow, which is the peer of the connection that it is for, and its index is not past a bound
pub record IsOfPeer (flows : Flows) (R : Connection → ℕ × ℕ → Type 0) (addr top bound : ℕ) (b : Content) : Type 0 where
  pub genuine : IsGenuine flows b
  pub from : IsFromBelow top b
  pub tagged : is_reliable (header_at b.header).flags.0 ≡ true → (t : Tag) × (b.trace.tag ≡ Some t)
  pub peer : (t : Tag) → b.trace.tag ≡ Some t → (header_at b.header).dst ≡ addr → R (connection_of (header_at b.header)) (flow_of t)
  pub dst : (t : Tag) → b.trace.tag ≡ Some t → (header_at b.header).dst < top
  pub index : (t : Tag) → b.trace.tag ≡ Some t → t.index ≤ bound

-- what a packet of the node's own acknowledges is not past a bound
abbrev pub AcksWithin : ℕ → Content → Type 0
AcksWithin bound b = (t : Tag) → b.trace.tag ≡ Some t → t.ack ≤ bound

abbrev pub IsPeer : (top : ℕ) → Flows → (Connection → ℕ × ℕ → Type 0) → OwnFlows → Numbering → Seat → Now → Type 0
IsPeer top flows R o m s n = IsMaker top o m s n × IsHearer flows R m s n

abbrev pub peer_aim : Facts → (top bound : ℕ) → Flows → (Connection → ℕ × ℕ → Type 0) → (Content → Type 0) → Aim
peer_aim f top bound flows R hears = record {
  is = IsPeer top flows R (flows_of f);
  coming = both_come (addressable top) (of_peers flows R bound);
  over = λ m app x down. ⊤;
  good = AcksWithin bound;
  hears = hears;
  comes = ComesWell;
  fresh = λ e. ⊤;
  at = λ r. ⊤;
}

-- a packet that is for a node by its own address, or by broadcast, is not for the latter where its address is below that
here_own : (addr dst top : ℕ) → (dst == addr || dst == 31) ≡ true → dst < top → top ≤ 31 → dst ≡ addr
here_own addr dst top here low few =
    by (dst == addr) refl here
  where
    by : (c : Bool) → (dst == addr) ≡ c → (c || dst == 31) ≡ true → dst ≡ addr
    by true e h = eqb-true dst addr e
    by false e h = let far : dst ≡ 31 = eqb-true dst 31 h in absurd (omega (arith, far, low, few))

module _ (f : Facts) (es : List Entry) (top bound : ℕ) (flows : Flows) (R : Connection → ℕ × ℕ → Type 0) (hears : Content → Type 0) (few : top ≤ 31) (allows : AllowsOne top) (within : bound < half) (one : HasOnePeer R) (short : AreShort flows)
    (far : (flow : ℕ × ℕ) → length (flows.said flow) ≤ bound) (known : (b : Content) → hears b → IsOfPeer flows R f.addr top bound b) where
  -- the flow of a packet that was read is the peer of its connection
  pub fed_by : (b : Content) (payload : List ℕ) (read : List ℕ × RdpHead) → hears b → IsRead f b payload read
      → (t : Tag) × (b.trace.tag ≡ Some t) × IsTrueOf flows t read.1 read.0 × R (connection_of (header_at b.header)) (flow_of t) × (t.index ≤ bound)
  fed_by b payload read heard was =
      let k : IsOfPeer flows R f.addr top bound b = known b heard in
      let tag = k.tagged was.reliable in
      let here : (header_at b.header).dst ≡ f.addr = here_own f.addr (header_at b.header).dst top was.here (k.dst tag.0 tag.1) few in
      (tag.0, tag.1, read_true flows b payload read tag.0 (k.genuine tag.0 tag.1) was.is_unwrapped was.is_parted, k.peer tag.0 tag.1 here, k.index tag.0 tag.1)

  acks_within : (p : PlainPorts) (books : Books) (m : Numbering) (seat : Seat) (time : ℕ) (j : Job) (b : Content) (c : Connection) → IsPeer top flows R (flows_of f) m seat (now_at p books seat) → job_of time (machine_at p seat) ≡ Some j
      → AcksWithin bound (addressed f c (terms_at p seat) (made_in j time seat b p))
  acks_within p books m seat time j b c is job tag e =
      let r : PlainRdp = machine_at p seat in
      let s : Says = says j time r in
      let x : Content = made_in j time seat b p in
      let tags : ◌≡◌ {A = Option Tag} (Some (tag_for s r)) (Some tag) = sym (ap (λ t. t.tag) (protected_trace (is_checked (header_for f c (terms_at p seat))) x)) ∙ e in
      let tag_is : tag_for s r ≡ tag = ap (λ (o : Option Tag). unwrap_or o (tag_for s r)) tags in
      let ack = (maker-says top (flows_of f) m seat (now_at p books seat) time j is.0 job).ack in
      let cur = cur_within r.peer refl in
      subst (λ (t : Tag). t.ack ≤ bound) tag_is (omega (arith, ack, cur))
    where
      cur_within : (peer : Option (ℕ × ℕ)) → (machine_at p seat).peer ≡ peer → (machine_at p seat).recv.cur ≤ bound
      cur_within (Some flow) q = let near = is.1.1.near flow q in let most = far flow in omega (arith, near, most)
      cur_within None q = let none = is.1.1.fresh q in omega (arith, none)

  pub peer_is_aim : IsAim (peer_aim f top bound flows R hears) f (past es)
  peer_is_aim = record {
    ports = ports_kept (flows_of f) (both_come (addressable top) (of_peers flows R bound)) (IsPeer top flows R (flows_of f))
        (both-kept (flows_of f) (addressable top) (of_peers flows R bound) (IsMaker top (flows_of f)) (IsHearer flows R) (maker-kept top (flows_of f)) (hearer-kept (flows_of f) flows R bound within one short));
    ended = λ m s n how is e. tt;
    plain = λ m s ordinal down. tt;
    grows = λ m m' app x down on over. tt;
    never_plain = λ m s n is e. sender_not n.machine.state (flows_of f) m s n is.0.0 e;
    unmarked = λ mark b e none comes tag q. absurd (let both : ◌≡◌ {A = Option Tag} None (Some tag) = sym none ∙ q in cc);
    unreliable = λ b none plain tag q. absurd (let both : ◌≡◌ {A = Option Tag} None (Some tag) = sym none ∙ q in cc);
    wishes = λ p r comes reliable own chosen. (asked_addressable top p r allows comes reliable own chosen, tt);
    makes = λ h m books p s time j b c part tells o there is found job. acks_within p books m s time j b c is job;
    feeds = λ b payload r read heard was fresh. (tt, fed_by b payload read heard was);
    asks = λ b payload read heard was syn.
        let fed = fed_by b payload read heard was in
        (heard_addressable top b (known b heard).from was.reliable, (fed.0, fed.1, fed.2.syn syn, fed.3));
  }
