-- a router's connections have numbers of their own, and it sends genuine packets
use Rattle.std.proofs.Common.{◌≡◌, ℕ, pos, ◌-◌, ◌<◌, ◌==◌, Bool, true, false, Option, None, Some, List, [], ◌∷◌, ◌++◌, refl, sym, ap, ◌∙◌, subst, arith}
use Rattle.std.specs.Prelude.{⊤, if◌then◌else◌, ℤ, ◌+ℤ◌}
use Rattle.std.specs.List.{AllByRecursion, slice_get}
use Rattle.std.specs.Option.{unwrap_or}
use Rattle.csp_base.specs.Seat.{seat}
use Rattle.csp_base.specs.declared.seat.Seat.{Seat}
use Rattle.csp_base.proofs.Public.{wrapped_small}
use Rattle.csp_base.specs.Sequence.{number_of}
use Rattle.csp_base.specs.declared.traces.Tag.{Tag}
use Rattle.csp_buffer.specs.Content.{Content}
use Rattle.csp_conn.specs.declared.slot.Connection.{Connection}
use Rattle.csp_conn.specs.declared.slot.Slot.TheVariants as has
use Rattle.csp_header.specs.declared.word.Header.{Header}
use Rattle.csp_log.specs.declared.entry.Entry.{Entry}
use Rattle.csp_log.specs.declared.event.Event.{Event}
use Rattle.csp_ports.specs.PlainPorts.{PlainPorts, machine_at, start_of, terms_at}
use Rattle.csp_ports.specs.Tasks.{made_in}
use Rattle.csp_ports.specs.declared.flows.OwnFlows.{OwnFlows}
use Rattle.csp_rdp.specs.Jobs.{Says, head_for, job_of, says, tag_for}
use Rattle.csp_rdp.specs.Machine.{PlainRdp}
use Rattle.csp_rdp.specs.declared.answers.State.{State}
use Rattle.csp_rdp.specs.declared.answers.State.TheVariants.{Closed, CloseWait, Open, SynRcvd, SynSent}
use Rattle.csp_rdp.specs.declared.jobs.Job.{Job}
use Rattle.csp_rdp_header.specs.Head.{head_bytes}
use Rattle.csp_rdp_header.specs.declared.head.RdpHead.{RdpHead}
use Rattle.csp_rdp_header.specs.declared.head.TheConstants.{SYN}
use Rattle.csp_record.specs.declared.connections.Opening.{Opening}
use Rattle.csp_route.specs.Routes.{Routes}
use Rattle.csp_stack.specs.Readings.{is_checked}
use Rattle.csp_stack.specs.Router.{Facts, flows_of}
use Rattle.csp_stack.specs.Rules.{addressed, header_for}
use Rattle.csp_stack.specs.Sending.{protected}
use Rattle.csp_prefix.specs.Flows.{Flows, IsFilledFor, IsGenuine, IsSaid, IsTrueOf, with_checksum}
use Rattle.csp_prefix.specs.Machines.{IsOpeningOf, IsOver, IsSender, MakesTrue, OpensNumbered, SaysTrue, SendsIn, WasOpened, whatever}
use Rattle.csp_prefix.specs.Ports.{ArePortsKept, Books, now_at}
use Rattle.csp_prefix.specs.Prefix.{IsBeginning}
use Rattle.csp_prefix.specs.Routers.{AreNumbered, AreShown, IsFlowOf, IsHeard, IsRouterLog, SendsGenuine, ArePlaced}
use Rattle.csp_prefix.specs.Slots.{Book, GoesOn, Now, Numbering}
use Rattle.csp_prefix.proofs.RouterBooks.{IsAmong, Past, Tells, get_more, no_past, opening_on}
use Rattle.csp_prefix.proofs.RouterBytes.{checked_flag}
use Rattle.csp_prefix.proofs.RouterHeard.{protected_trace}
use Rattle.csp_prefix.proofs.RouterRun.{IsRunSo, found_any}
use Rattle.csp_prefix.proofs.RouterStanding.{Aim, IsAim, IsPart, blank_unopened}
use Rattle.csp_prefix.proofs.RouterTrue.{each_comes, opening_known, opening_placed, past, past_opened, past_sent, run_known}
use Rattle.csp_conn.specs.PlainConns.{slot_at}
use Rattle.csp_stack.specs.Config.{opening_state}

-- what is to be known of a sender; and the packets that go out are so
abbrev pub sender_aim : Facts → List Entry → (Content → Type 0) → Aim
sender_aim f es good = record {
  is = IsSender (flows_of f);
  coming = whatever;
  over = λ m app x down. (nth : ℕ) → x.nth ≡ Some nth → IsOpeningOf m (seat app x.slot) x.ordinal nth;
  good = good;
  hears = IsHeard es;
  comes = λ i. ⊤;
  fresh = λ e. ⊤;
  at = λ r. ⊤;
}

-- no reliable connection is open as a plain one is
numbered_not : (m : Numbering) (seat : Seat) (n : Now) → WasOpened m seat n → n.book.opened ≡ Some (None, None) → ⊥
numbered_not m seat n was is =
    let both : ◌≡◌ {A = Option (Option ℕ × Option (ℕ × ℕ))} (Some (Some n.machine.nth, n.machine.peer)) (Some (None, None)) = sym was.opened ∙ is in
    let first : ◌≡◌ {A = Option ℕ} (Some n.machine.nth) None = ap (λ (o : Option (Option ℕ × Option (ℕ × ℕ))). (unwrap_or o (None, None)).0) both in
    absurd cc

over_not : (was : Bool) (m : Numbering) (seat : Seat) (n : Now) → n.machine.was_open ≡ was → IsOver m seat n → n.book.opened ≡ Some (None, None) → ⊥
over_not true m seat n e over is = numbered_not m seat n (over.0 e) is
over_not false m seat n e over is = blank_unopened n.book (None, None) (over.1 e).book is

pub sender_not : (s : State) (o : OwnFlows) (m : Numbering) (seat : Seat) (n : Now) → SendsIn s o m seat n → n.book.opened ≡ Some (None, None) → ⊥
sender_not SynSent o m seat n sends is = blank_unopened n.book (None, None) sends.1.book is
sender_not SynRcvd o m seat n sends is = blank_unopened n.book (None, None) sends.1.book is
sender_not Open o m seat n sends is = numbered_not m seat n sends.1 is
sender_not CloseWait o m seat n sends is = over_not n.machine.was_open m seat n refl sends is
sender_not Closed o m seat n sends is = over_not n.machine.was_open m seat n refl sends is

opening_later : (m m' : Numbering) (seat : Seat) (ordinal nth : ℕ) → GoesOn m m' → IsOpeningOf m seat ordinal nth → IsOpeningOf m' seat ordinal nth
opening_later m m' seat ordinal nth on is = record { made = let more = on.more in let made = is.made in omega (arith, more, made); home = on.same nth is.made ∙ is.home }

-- ---- connections have numbers of their own
abbrev pub Makes : Facts → List Entry → (Content → Type 0) → Type 0
Makes f es good =
    (h : Past) (m : Numbering) (books : Books) (p : PlainPorts) (seat : Seat) (time : ℕ) (j : Job) (b : Content) (c : Connection) → IsPart h (past es) → Tells (sender_aim f es good).over f.apps m h books
    → (terms_at p seat).ordinal ≡ h.ends seat → slot_at p.conns seat ≡ has.Open c → IsSender (flows_of f) m seat (now_at p books seat) → ⊤ → job_of time (machine_at p seat) ≡ Some j
    → good (addressed f c (terms_at p seat) (made_in j time seat b p))

pub sender_is_aim : (f : Facts) (es : List Entry) (good : Content → Type 0) → ArePortsKept (flows_of f) whatever (IsSender (flows_of f)) → OpensNumbered (IsSender (flows_of f))
    → ((b : Content) → b.trace.tag ≡ None → good b) → Makes f es good → IsAim (sender_aim f es good) f (past es)
sender_is_aim f es good ports opens untraced makes = record {
  ports = ports;
  ended = λ m seat n how is e nth q. let known : n.book.opened ≡ Some (Some nth, how.1) = e ∙ ap (λ x. Some (x, how.1)) q in opens m seat n nth how.1 is known;
  plain = λ m seat ordinal down nth e. absurd cc;
  grows = λ m m' app x down on over nth e. opening_later m m' (seat app x.slot) x.ordinal nth on (over nth e);
  never_plain = λ m seat n is e. sender_not n.machine.state (flows_of f) m seat n is e;
  unmarked = λ mark b e none comes. untraced b none;
  unreliable = λ b none plain. untraced b none;
  wishes = λ p r comes reliable own chosen. tt;
  makes = makes;
  feeds = λ b payload r read hears known fresh. tt;
  asks = λ b payload read hears known syn. tt;
}

pub all_fresh : (es : List Entry) → AllByRecursion (λ e. AllByRecursion {X = Event} (λ v. ⊤) e.events.items) es
all_fresh [] = tt
all_fresh (e ∷ es) = (each e.events.items, all_fresh es)
  where
    each : (vs : List Event) → AllByRecursion {X = Event} (λ v. ⊤) vs
    each [] = tt
    each (v ∷ vs) = (tt, each vs)

sender_run : (f : Facts) (routes : Routes) (es : List Entry) (good : Content → Type 0) → IsAim (sender_aim f es good) f (past es) → IsRouterLog f routes es → IsRunSo (sender_aim f es good) f no_past es
sender_run f routes es good k log = run_known (sender_aim f es good) f routes es k log (λ at mark b e. record { at = at; mark = mark; there = e }) (each_comes (sender_aim f es good) (λ i. tt) es) (all_fresh es) (found_any f (opening_state f.apps routes) es)

pub are_numbered : (f : Facts) (routes : Routes) (es : List Entry) → ArePortsKept (flows_of f) whatever (IsSender (flows_of f)) → OpensNumbered (IsSender (flows_of f)) → IsRouterLog f routes es → AreNumbered es
are_numbered f routes es ports opens log app other nth x y is also =
    let k = sender_is_aim f es (λ b. ⊤) ports opens (λ b e. tt) (λ h m books p seat time j b c part tells o there known found e. tt) in
    let r = sender_run f routes es (λ b. ⊤) k log in
    let one = opening_known (sender_aim f es (λ b. ⊤)) f es k r app nth x is nth is.numbered in
    let two = opening_known (sender_aim f es (λ b. ⊤)) f es k r other nth y also nth also.numbered in
    let same : (seat app x.slot, x.ordinal) ≡ (seat other y.slot, y.ordinal) = sym one.home ∙ two.home in
    (ap (λ t. t.0) same, ap (λ t. t.1) same)

-- each opening's application and slot are there
pub are_placed : (f : Facts) (routes : Routes) (es : List Entry) → ArePortsKept (flows_of f) whatever (IsSender (flows_of f)) → OpensNumbered (IsSender (flows_of f)) → IsRouterLog f routes es → ArePlaced f es
are_placed f routes es ports opens log app at x e =
    let k = sender_is_aim f es (λ b. ⊤) ports opens (λ b e. tt) (λ h m books p seat time j b c part tells o there known found e. tt) in
    opening_placed (sender_aim f es (λ b. ⊤)) f es (sender_run f routes es (λ b. ⊤) k log) app at x e

-- ---- and what is sent is genuine
protected_payload : (has : Bool) (b : Content) → (protected has b).payload ≡ with_checksum has b.payload
protected_payload true b = refl
protected_payload false b = refl

number_small : (start : ℕ) (t : ℤ) → number_of start t < 65536
number_small start t = wrapped_small (pos start +ℤ t)

small_ack : (t : Bool) (n : ℕ) → n < 65536 → (if t then 0 else n) < 65536
small_ack true n lt = omega arith
small_ack false n lt = lt

said_more : (xs ys : List (List ℕ)) (index : ℕ) (bytes : List ℕ) → IsBeginning xs ys → IsSaid xs index bytes → IsSaid ys index bytes
said_more xs ys index bytes b is = record { low = is.low; there = subst (λ zs. slice_get zs (index - 1) ≡ Some bytes) b.whole (get_more xs b.rest (index - 1) bytes is.there) }

-- an opening that was told is that of a flow
pub opening_flow : (es : List Entry) (h : Past) (app nth : ℕ) (x : Opening) → IsPart h (past es) → IsAmong x (h.opened app) → x.nth ≡ Some nth → IsFlowOf es app nth x
opening_flow es h app nth x part a e =
    let b = part.opened app in
    record { at = a.at; there = subst (λ xs. slice_get xs a.at ≡ Some x) (b.whole ∙ past_opened es app) (get_more (h.opened app) b.rest a.at x a.there); numbered = e }

true_packet : (f : Facts) (es : List Entry) (flows : Flows) (h : Past) (m : Numbering) (books : Books) (seat : Seat) (time : ℕ) (j : Job) (n : Now) → AreShown f es flows → IsPart h (past es)
    → Tells (sender_aim f es (IsGenuine flows)).over f.apps m h books → n.book ≡ books seat → SaysTrue (flows_of f) m seat n time j
    → IsTrueOf flows (tag_for (says j time n.machine) n.machine) (head_for (says j time n.machine) n.machine) (says j time n.machine).bytes
true_packet f es flows h m books seat time j n shown part tells same known =
    let r : PlainRdp = n.machine in
    let s : Says = says j time r in
    let start_is : r.node ≡ f.node → flows.start (r.node, r.nth) ≡ start_of f.seed r.nth = λ e. ap (λ k. flows.start (k, r.nth)) e ∙ shown.start r.nth in
    record {
      range = (number_small r.send.start (pos s.index), small_ack (s.flags == SYN) (number_of r.recv.start (pos s.ack)) (number_small r.recv.start (pos s.ack)));
      syn = λ e. let k = known.syn e in k.1 ∙ sym (start_is k.0);
      number = λ e. let k = known.carries e in k.1 ∙ ap (λ x. number_of x (pos s.index)) (sym (start_is k.0));
      payload = λ e.
          let k = known.carries e in
          let opened : (books seat).opened ≡ Some (Some r.nth, r.peer) = ap (λ (b : Book). b.opened) (sym same) ∙ k.3.opened in
          let x : Opening = opening_on seat (h.ends seat) (Some r.nth, r.peer) in
          let flow = opening_flow es h seat.app r.nth x part (tells.back seat (Some r.nth, r.peer) opened) refl in
          let all : flows.said (r.node, r.nth) ≡ (past es).sent seat (h.ends seat) = ap (λ k. flows.said (k, r.nth)) k.0 ∙ shown.said seat.app r.nth x flow ∙ sym (past_sent es seat (h.ends seat)) in
          let told : n.book.sent ≡ h.sent seat (h.ends seat) = ap (λ (b : Book). b.sent) same ∙ tells.sent seat in
          subst (λ xs. IsSaid xs s.index s.bytes) (sym all)
          (said_more (h.sent seat (h.ends seat)) ((past es).sent seat (h.ends seat)) s.index s.bytes (part.sent seat (h.ends seat)) (subst (λ xs. IsSaid xs s.index s.bytes) told k.2));
    }

makes_genuine : (f : Facts) (es : List Entry) (flows : Flows) → MakesTrue (IsSender (flows_of f)) (flows_of f) → AreShown f es flows → Makes f es (IsGenuine flows)
makes_genuine f es flows makes shown h m books p seat time j b c part tells counted there is found job tag e =
    let n : Now = now_at p books seat in
    let r : PlainRdp = machine_at p seat in
    let s : Says = says j time r in
    let head : RdpHead = head_for s r in
    let x : Content = made_in j time seat b p in
    let hdr : Header = header_for f c (terms_at p seat) in
    let tags : ◌≡◌ {A = Option Tag} (Some (tag_for s r)) (Some tag) = ap (λ t. t.tag) (sym (protected_trace (is_checked hdr) x)) ∙ e in
    let tag_is : tag_for s r ≡ tag = ap (λ (o : Option Tag). unwrap_or o (tag_for s r)) tags in
    subst (λ t. IsFilledFor flows (addressed f c (terms_at p seat) x) t) tag_is (record {
      head = head;
      bytes = s.bytes;
      payload = protected_payload (is_checked hdr) x ∙ ap (λ t. with_checksum t (s.bytes ++ head_bytes head)) (sym (checked_flag hdr));
      true_of = true_packet f es flows h m books seat time j n shown part tells refl (makes m seat n time j is job);
    })

pub sends_genuine : (f : Facts) (routes : Routes) (es : List Entry) (flows : Flows) → ArePortsKept (flows_of f) whatever (IsSender (flows_of f)) → MakesTrue (IsSender (flows_of f)) (flows_of f) → OpensNumbered (IsSender (flows_of f))
    → IsRouterLog f routes es → AreShown f es flows → SendsGenuine flows es
sends_genuine f routes es flows ports makes opens log shown =
    let k = sender_is_aim f es (IsGenuine flows) ports opens (λ b none tag e. absurd (let bad : ◌≡◌ {A = Option Tag} None (Some tag) = sym none ∙ e in cc)) (makes_genuine f es flows makes shown) in
    (sender_run f routes es (IsGenuine flows) k log).pushed
