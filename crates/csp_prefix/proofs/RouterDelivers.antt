-- where a router hears genuine packets alone, of which none was stale, it delivers beginnings of what its connections' peers sent
use Rattle.std.proofs.Common.{◌≡◌, ℕ, ◌==◌, ◌||◌, not, Bool, true, false, Option, None, Some, List, [], ◌∷◌, ◌++◌, refl, sym, ap, ◌∙◌, subst}
use Rattle.std.specs.Prelude.{⊤}
use Rattle.std.specs.List.{AllByRecursion}
use Rattle.std.specs.Option.{unwrap_or}
use Rattle.std.proofs.lemmas.Bool.{and_parts, eqb-true, or_parts}
use Rattle.csp_base.specs.declared.traces.Tag.{Tag}
use Rattle.csp_buffer.specs.Content.{Content}
use Rattle.csp_header.specs.Word.{header_at}
use Rattle.csp_log.specs.PlainLog.{all_events}
use Rattle.csp_log.specs.declared.entry.Entry.{Entry}
use Rattle.csp_log.specs.declared.event.Event.{Event}
use Rattle.csp_log.specs.declared.places.QueueId.TheVariants as queue
use Rattle.csp_log.specs.declared.shown.ItemShown.TheVariants as item
use Rattle.csp_rdp.specs.Machine.{flow_of, una_of}
use Rattle.csp_rdp.specs.declared.answers.State.{State}
use Rattle.csp_rdp.specs.declared.answers.State.TheVariants.{Closed, CloseWait, Open, SynRcvd, SynSent}
use Rattle.csp_rdp_header.specs.Head.{head_bytes, parted}
use Rattle.csp_rdp_header.specs.declared.head.RdpHead.{RdpHead}
use Rattle.csp_record.specs.Stale.{is_far, is_stale, is_stale_at, names}
use Rattle.csp_route.specs.Routes.{Routes}
use Rattle.csp_stack.specs.Readings.{is_checked}
use Rattle.csp_stack.specs.Router.{Facts, flows_of}
use Rattle.csp_prefix.specs.Flows.{Flows, IsFilledFor, IsGenuine, IsTrueOf}
use Rattle.csp_prefix.specs.Machines.{IsReceiver, IsToldSo, Receives, ReceivesIn, true_packets}
use Rattle.csp_prefix.specs.Ports.{ArePortsKept}
use Rattle.csp_prefix.specs.Prefix.{IsBeginning}
use Rattle.csp_consistent.specs.Reading.{gets}
use Rattle.csp_consistent.proofs.Public.{each_first, each_last}
use Rattle.csp_prefix.specs.Routers.{DeliversPrefix, HasNoStale, HearsGenuine, IsGenuineItem, IsRouterLog}
use Rattle.csp_prefix.specs.Slots.{Now}
use Rattle.csp_prefix.proofs.RouterBooks.{all_at}
use Rattle.csp_prefix.proofs.RouterBytes.{parted_back, unwrapped_is}
use Rattle.csp_prefix.proofs.RouterStanding.{Aim, IsAim, blank_unopened, not_false, unwrapped}
use Rattle.csp_prefix.proofs.RouterTrue.{each_comes, opening_known, past, run_known}
use Rattle.csp_prefix.proofs.RouterRun.{found_any}
use Rattle.csp_stack.specs.Config.{opening_state}

-- what is to be known of a receiver, where what it hears is so
abbrev pub receiver_aim : Flows → Aim
receiver_aim flows = record {
  is = IsReceiver flows;
  coming = true_packets flows;
  over = λ m app x down. (nth : ℕ) (flow : ℕ × ℕ) → x.nth ≡ Some nth → x.peer ≡ Some flow → IsBeginning down (flows.said flow);
  good = λ b. ⊤;
  hears = IsGenuine flows;
  comes = λ i. ⊤;
  fresh = λ e. is_stale e ≡ false;
  at = λ r. ⊤;
}

-- no reliable connection is open as a plain one is
told_not : (was : Bool) (n : Now) → n.machine.was_open ≡ was → IsToldSo n → n.book.opened ≡ Some (None, None) → ⊥
told_not true n e told is =
    let both : ◌≡◌ {A = Option (Option ℕ × Option (ℕ × ℕ))} (Some (Some n.machine.nth, n.machine.peer)) (Some (None, None)) = sym (told.0 e) ∙ is in
    let first : ◌≡◌ {A = Option ℕ} (Some n.machine.nth) None = ap (λ (o : Option (Option ℕ × Option (ℕ × ℕ))). (unwrap_or o (None, None)).0) both in
    absurd cc
told_not false n e told is = blank_unopened n.book (None, None) (told.1 e).book is

receiver_not : (s : State) (flows : Flows) (n : Now) → ReceivesIn s flows n → n.book.opened ≡ Some (None, None) → ⊥
receiver_not SynSent flows n r is = blank_unopened n.book (None, None) r.0.book is
receiver_not SynRcvd flows n r is = blank_unopened n.book (None, None) r.0.book is
receiver_not Open flows n r is = told_not n.machine.was_open n refl r.0 is
receiver_not CloseWait flows n r is = told_not n.machine.was_open n refl r.0 is
receiver_not Closed flows n r is = told_not n.machine.was_open n refl r.0 is

-- ---- what a genuine packet says is true of its flow
pub read_true : (flows : Flows) (b : Content) (payload : List ℕ) (read : List ℕ × RdpHead) (t : Tag) → IsFilledFor flows b t → unwrapped (is_checked (header_at b.header)) b.payload ≡ Some payload → parted payload ≡ Some read → IsTrueOf flows t read.1 read.0
read_true flows b payload read t x un q =
    let raw : List ℕ = x.bytes ++ head_bytes x.head in
    let same : raw ≡ payload = unwrapped_is (is_checked (header_at b.header)) raw payload (subst (λ bytes. unwrapped (is_checked (header_at b.header)) bytes ≡ Some payload) x.payload un) in
    let both : ◌≡◌ {A = Option (List ℕ × RdpHead)} (Some (x.bytes, x.head)) (Some read) = sym (parted_back x.bytes x.head x.true_of.range.0 x.true_of.range.1) ∙ ap parted same ∙ q in
    let is : (x.bytes, x.head) ≡ read = ap (λ (o : Option (List ℕ × RdpHead)). unwrap_or o read) both in
    subst (λ (p : List ℕ × RdpHead). IsTrueOf flows t p.1 p.0) is x.true_of

pub fed_tag : (o : Option Tag) (flow : ℕ × ℕ) (cur una : ℕ) → is_stale_at (Some flow) o cur una ≡ false → (t : Tag) × (o ≡ Some t) × (flow_of t ≡ flow) × (is_far t.index cur ≡ false)
fed_tag None flow cur una e = absurd cc
fed_tag (Some t) flow cur una e =
    let outer = or_parts (not (names t flow) || is_far t.index cur) (is_far t.ack una) e in
    let inner = or_parts (not (names t flow)) (is_far t.index cur) outer.0 in
    let named = and_parts (t.node == flow.0) (t.nth == flow.1) (not_false (names t flow) inner.0) in
    let one : t.node ≡ flow.0 = eqb-true t.node flow.0 named.0 in
    let two : t.nth ≡ flow.1 = eqb-true t.nth flow.1 named.1 in
    (t, refl, λ i. (one i, two i), inner.1)

receiver_is_aim : (f : Facts) (es : List Entry) (flows : Flows) → ArePortsKept (flows_of f) (true_packets flows) (IsReceiver flows) → Receives (IsReceiver flows) flows → IsAim (receiver_aim flows) f (past es)
receiver_is_aim f es flows ports receives = record {
  ports = ports;
  ended = λ m seat n how is e nth flow q p. let known : n.book.opened ≡ Some (Some nth, Some flow) = e ∙ ap (λ x. Some (x, how.1)) q ∙ ap (λ y. Some (Some nth, y)) p in receives m seat n nth flow is known;
  plain = λ m seat ordinal down nth flow e p. absurd cc;
  grows = λ m m' app x down on over. over;
  never_plain = λ m seat n is e. receiver_not n.machine.state flows n is e;
  unmarked = λ mark b e none comes. tt;
  unreliable = λ b none plain. tt;
  wishes = λ p r comes reliable own chosen. tt;
  makes = λ h m books p seat time j b c part tells o there known found e. tt;
  feeds = λ b payload r read hears known fresh. record {
    genuine = λ t e. read_true flows b payload read t (hears t e) known.is_unwrapped known.is_parted;
    peer = λ flow e. fed_tag b.trace.tag flow r.recv.cur (una_of r) (subst (λ p. is_stale_at p b.trace.tag r.recv.cur (una_of r) ≡ false) e fresh);
  };
  asks = λ b payload read hears known syn t e. (read_true flows b payload read t (hears t e) known.is_unwrapped known.is_parted).syn syn;
}

-- ---- no event tells of a stale copy
pub none_stale : (es : List Entry) → HasNoStale es → AllByRecursion (λ e. AllByRecursion {X = Event} (λ v. is_stale v ≡ false) e.events.items) es
none_stale [] all = tt
none_stale (e ∷ es) all = (each_first (λ v. is_stale v ≡ false) e.events.items (all_events es) all, none_stale es (each_last (λ v. is_stale v ≡ false) e.events.items (all_events es) all))

pub delivers_prefix : (f : Facts) (routes : Routes) (es : List Entry) (flows : Flows) → ArePortsKept (flows_of f) (true_packets flows) (IsReceiver flows) → Receives (IsReceiver flows) flows → IsRouterLog f routes es → HearsGenuine flows es → HasNoStale es
    → DeliversPrefix flows es
delivers_prefix f routes es flows ports receives log hears none app nth x peer is e =
    let k = receiver_is_aim f es flows ports receives in
    let r = run_known (receiver_aim flows) f routes es k log (λ at mark b q. all_at (IsGenuineItem flows) (gets queue.Inbox es) at (item.Packet mark b) hears q) (each_comes (receiver_aim flows) (λ i. tt) es) (none_stale es none) (found_any f (opening_state f.apps routes) es) in
    opening_known (receiver_aim flows) f es k r app nth x is nth peer is.numbered e
