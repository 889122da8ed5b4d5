-- What a router's turn leaves, where only its connections are looked at: as senders are, or with one of them that is over.
use Rattle.std.proofs.Common.{◌≡◌, ◌≢◌, ℕ, ◌<◌, ◌==◌, Bool, true, false, Option, Some, None, List, ◌++◌, refl, sym, ap, ◌∙◌, subst}
use Rattle.std.specs.Prelude.{if◌then◌else◌, ⊤}
use Rattle.std.proofs.lemmas.Bool.{eq-eqb}
use Rattle.csp_base.specs.declared.seat.Seat.{Seat}
use Rattle.csp_conn.specs.PlainConns.{slot_at}
use Rattle.csp_base.specs.declared.limits.TheConstants.{SLOTS}
use Rattle.csp_conn.specs.declared.slot.Connection.{Connection}
use Rattle.csp_conn.specs.declared.slot.Slot.{Slot}
use Rattle.csp_conn.specs.declared.slot.Slot.TheVariants as has
use Rattle.csp_deck.specs.Runs.{IsStep}
use Rattle.csp_log.specs.declared.entry.Entry.{Entry}
use Rattle.csp_log.specs.declared.event.Event.{Event}
use Rattle.csp_log.specs.declared.shown.AnswerShown.{AnswerShown}
use Rattle.csp_ports.specs.Asking.{is_reliable}
use Rattle.csp_ports.specs.PlainPorts.{PlainPorts, machine_at, terms_at}
use Rattle.csp_ports.specs.Steps.{timed as ports_timed}
use Rattle.csp_ports.specs.declared.terms.Terms.{Terms}
use Rattle.csp_prefix.proofs.Public.{sender-kept, IsAmong, IsTold, Past, all_at, past_after, with_openings, split_entry, each_any, hears_any, known_aim, known_is_aim, known_stands, known_turns, told_since, past_with, step_stands, sender_not, Aim, IsAim, Stands, events_are, timed_unsent, part_all}
use Rattle.csp_prefix.specs.Machines.{IsSender}
use Rattle.csp_prefix.specs.Ports.{Books, IsInUse, IsSlot, now_at}
use Rattle.csp_prefix.specs.Routers.{ComesSo, router_steps}
use Rattle.csp_prefix.specs.Slots.{Book, Now, Numbering, blank}
use Rattle.csp_rdp.specs.declared.answers.State.TheVariants as state
use Rattle.csp_record.specs.declared.connections.Opening.{Opening}
use Rattle.csp_stack.specs.Router.{Facts, Leaving, State, at_rest, flows_of}
use Rattle.csp_stack.specs.Told.{Told}
use Rattle.csp_stack.specs.Turn.{asked_at, until_answer, plan_of, timed, told_at, turn_of}
use Rattle.csp_stack.specs.declared.plan.Plan.{Plan}
use Rattle.csp_blobs.proofs.AskingShut.{IsShut, Keeps, beside, number_is, open_or_past, shut_kept, shut_not_plain, was_opened}

-- at senders
abbrev pub senders : Facts → Aim
senders f = known_aim (IsSender (flows_of f))

pub senders_aim : (f : Facts) (whole : Past) → IsAim (senders f) f whole
senders_aim f whole =
    let o = flows_of f in
    known_is_aim (IsSender o) f whole (sender-kept o) (λ m s n is e. sender_not n.machine.state o m s n is e)

-- at one that is over
abbrev pub over_one : Facts → (place : Seat × ℕ) (nth : ℕ) (said : List (List ℕ)) → Aim
over_one f place nth said = known_aim (Keeps (flows_of f) place nth said)

pub over_aim : (f : Facts) (place : Seat × ℕ) (nth : ℕ) (said : List (List ℕ)) (whole : Past) → IsAim (over_one f place nth said) f whole
over_aim f place nth said whole =
    let o = flows_of f in
    known_is_aim (Keeps o place nth said) f whole (shut_kept o place nth said) (shut_not_plain o place nth said)

-- ---- a turn

pub turns : (Is : Numbering → Seat → Now → Type 0) (f : Facts) → ((whole : Past) → IsAim (known_aim Is) f whole) → (e : Entry) (h : Past) (s : State) → IsStep router_steps (record { facts = f; state = s }) e → ComesSo e.op e.answer
    → Stands (known_aim Is) f h s.ports s.out → Stands (known_aim Is) f (past_with e h) (told_at f (asked_at f s e.time) e.time e.answer).state.ports (told_at f (asked_at f s e.time) e.time e.answer).state.out
turns Is f k e h s step comes w =
    (step_stands (known_aim Is) f (past_with e h) (k (past_with e h)) e h s (λ seat j few low owed. tt) step (record { comes = comes; hears = hears_any Is e.op e.answer; fresh = each_any {X = Event} (λ v. ⊤) e.events.items (λ v. tt) }) (part_all (past_with e h)) w).0

-- once its timers were tried
pub turns_on : (Is : Numbering → Seat → Now → Type 0) (f : Facts) → ((whole : Past) → IsAim (known_aim Is) f whole) → (e : Entry) (h : Past) (s : State) → IsStep router_steps (record { facts = f; state = s }) e → ComesSo e.op e.answer
    → Stands (known_aim Is) f (with_openings (ports_timed e.time s.ports).events h) (timed s e.time).ports (timed s e.time).out
    → Stands (known_aim Is) f (past_with e h) (told_at f (asked_at f s e.time) e.time e.answer).state.ports (told_at f (asked_at f s e.time) e.time e.answer).state.out
turns_on Is f k e h s step comes w =
    let time : ℕ = e.time in
    let a : AnswerShown = e.answer in
    let t : State = timed s time in
    let p : Plan = plan_of f t time in
    let early : List Event = (ports_timed time s.ports).events in
    let told : Told = (turn_of f (at_rest (until_answer f t time p)) time p).told a in
    let after : Past = past_after (turn_of f t time p).asks a told.events (with_openings early h) in
    let events : e.events.items ≡ early ++ told.events = step.events ∙ events_are f s time a p refl in
    let same : after ≡ past_with e h =
    split_entry (turn_of f t time p).asks a early told.events h (timed_unsent time s.ports) ∙ ap (λ es. past_after (turn_of f t time p).asks a es h) (sym events) ∙ ap (λ o. past_after o a e.events.items h) (sym step.op) in
    subst (λ x. Stands (known_aim Is) f x told.state.ports told.state.out) same
    (known_turns Is f k (with_openings early h) s time a step.fits (subst (λ o. ComesSo o a) step.op comes) w)

-- ---- a connection that is told to be open

pub record IsUsed (Is : Numbering → Seat → Now → Type 0) (s : Slot) (t : Terms) (m : Numbering) (seat : Seat) (n : Now) : Type 0 where
  pub connection : Connection
  pub there : s ≡ has.Open connection
  pub reliable : is_reliable t.flags ≡ true
  pub known : Is m seat n

module _ (Is : Numbering → Seat → Now → Type 0) (m : Numbering) (seat : Seat) (n : Now) (nth : ℕ) (peer : Option (ℕ × ℕ)) (e : n.book.opened ≡ Some (Some nth, peer)) where
  vacant_not : n.book ≡ blank → ⊥
  vacant_not is = let none : n.book.opened ≡ None = ap (λ (b : Book). b.opened) is in cc

  use_is : (b : Bool) (c : Connection) (t : Terms) → is_reliable t.flags ≡ b → IsInUse Is b m seat n → IsUsed Is (has.Open c) t m seat n
  use_is true c t q is = record { connection = c; there = refl; reliable = q; known = is }
  use_is false c t q is =
      let both : ◌≡◌ {A = Option (Option ℕ × Option (ℕ × ℕ))} (Some (None, None)) (Some (Some nth, peer)) = sym is.opened ∙ e in
      let pairs : ◌≡◌ {A = Option ℕ × Option (ℕ × ℕ)} (None, None) (Some nth, peer) = cc in
      let first : ◌≡◌ {A = Option ℕ} None (Some nth) = ap (λ (h : Option ℕ × Option (ℕ × ℕ)). h.0) pairs in
      absurd cc

  pub is_used : (s : Slot) (t : Terms) → IsSlot Is s t m seat n → IsUsed Is s t m seat n
  is_used has.Free t is = absurd (vacant_not is.0.book)
  is_used has.Held t is = absurd (vacant_not is.book)
  is_used (has.Open c) t is = use_is (is_reliable t.flags) c t refl is

-- what the log tells of it
pub record IsToldOf (f : Facts) (h : Past) (s : Seat) (ordinal nth : ℕ) (peer : Option (ℕ × ℕ)) (books : Books) : Type 0 where
  pub app_there : s.app < f.apps
  pub slot_there : s.slot < SLOTS
  pub opened : ordinal ≡ h.ends s → (books s).opened ≡ Some (Some nth, peer)

abbrev pub opening_of : (slot ordinal nth : ℕ) → Option (ℕ × ℕ) → Opening
opening_of slot ordinal nth peer = record { slot = slot; ordinal = ordinal; nth = Some nth; peer = peer }

pub told_of : (Is : Numbering → Seat → Now → Type 0) (f : Facts) (h : Past) (p : PlainPorts) (o : Option Leaving) (w : Stands (known_aim Is) f h p o) (s : Seat) (ordinal nth : ℕ) (peer : Option (ℕ × ℕ))
    → IsAmong (opening_of s.slot ordinal nth peer) (h.opened s.app) → IsToldOf f h s ordinal nth peer w.books
told_of Is f h p o w s ordinal nth peer among =
    let i = all_at (IsTold (known_aim Is).over f.apps w.numbering h w.books s.app) (h.opened s.app) among.at (opening_of s.slot ordinal nth peer) (w.tells.told s.app) among.there in
    record { app_there = i.app_there; slot_there = i.slot_there; opened = i.present }

pub used_on : (Is : Numbering → Seat → Now → Type 0) (f : Facts) (h : Past) (p : PlainPorts) (o : Option Leaving) (w : Stands (known_aim Is) f h p o) (s : Seat) (nth : ℕ) (peer : Option (ℕ × ℕ)) → s.app < f.apps → s.slot < SLOTS
    → (w.books s).opened ≡ Some (Some nth, peer) → IsUsed Is (slot_at p.conns s) (terms_at p s) w.numbering s (now_at p w.books s)
used_on Is f h p o w s nth peer few low e =
    is_used Is w.numbering s (now_at p w.books s) nth peer e (slot_at p.conns s) (terms_at p s) (w.good.slots s (subst (λ n. s.app < n) (sym w.apps) few) low)

-- ---- a connection that is over

-- the numbering that names the place beside for it
abbrev pub marked : (place : Seat × ℕ) (nth : ℕ) → Numbering → Numbering
marked place nth m = record m { home = λ k. if k == nth then beside place else m.home k }

pub marked_so : (place : Seat × ℕ) (nth : ℕ) (m : Numbering) → (marked place nth m).home nth ≡ beside place
marked_so place nth m = rw (eq-eqb nth nth refl) refl

-- a connection that was open and is so no more is over, and just what was sent so far was sent on it
pub record IsEnded (f : Facts) (s : Seat) (ordinal nth : ℕ) (said : List (List ℕ)) (h : Past) (p : PlainPorts) (o : Option Leaving) : Type 0 where
  pub since : Numbering
  pub made : nth < since.made
  pub home : since.home nth ≡ beside (s, ordinal)
  pub stands : Stands (over_one f (s, ordinal) nth said) f (told_since since h) p o

pub ends_so : (f : Facts) (h : Past) (p : PlainPorts) (o : Option Leaving) (w : Stands (senders f) f h p o) (seat : Seat) (ordinal nth : ℕ) (peer : Option (ℕ × ℕ)) → seat.app < f.apps → seat.slot < SLOTS
    → (w.books seat).opened ≡ Some (Some nth, peer) → (machine_at p seat).state ≢ state.Open → IsEnded f seat ordinal nth (w.books seat).sent h p o
ends_so f h p o w seat ordinal nth peer few low e shut =
    let place : Seat × ℕ = (seat, ordinal) in
    let said : List (List ℕ) = (w.books seat).sent in
    let m : Numbering = marked place nth w.numbering in
    let n : Now = now_at p w.books seat in
    let used = used_on (IsSender (flows_of f)) f h p o w seat nth peer few low e in
    let number : n.machine.nth ≡ nth = number_is (flows_of f) w.numbering seat n nth peer used.known e in
    let made : nth < w.numbering.made = subst (λ k. k < w.numbering.made) number (was_opened (flows_of f) w.numbering seat n (Some nth, peer) used.known e).numbered.made in
    let here : IsShut said n = record { past = open_or_past n.machine.state (flows_of f) w.numbering seat n (Some nth, peer) used.known e shut; sent = refl } in
    record {
      since = m;
      made = made;
      home = marked_so place nth w.numbering;
      stands = known_stands (IsSender (flows_of f)) (Keeps (flows_of f) place nth said) f h p o w m refl
          (λ at few_at low_at i. record {
            other = w.numbering;
            sender = i;
            made = λ q. made;
            shut = λ mark is q. subst (λ x. IsShut said (now_at p w.books x)) (ap (λ (t : Seat × ℕ). t.0) (sym is)) here;
          });
    }

-- while it is the present one of its slot, just that was sent on it
pub ended_said : (f : Facts) (s : Seat) (ordinal nth : ℕ) (peer : Option (ℕ × ℕ)) (said : List (List ℕ)) (h : Past) (p : PlainPorts) (o : Option Leaving) → IsEnded f s ordinal nth said h p o
    → IsAmong (opening_of s.slot ordinal nth peer) (h.opened s.app) → h.ends s ≡ ordinal → h.sent s ordinal ≡ said
ended_said f s ordinal nth peer said h p o ended among ends =
    let Is : Numbering → Seat → Now → Type 0 = Keeps (flows_of f) (s, ordinal) nth said in
    let h' : Past = told_since ended.since h in
    let w : Stands (known_aim Is) f h' p o = ended.stands in
    let t = told_of Is f h' p o w s ordinal nth peer among in
    let e : (w.books s).opened ≡ Some (Some nth, peer) = t.opened (sym ends) in
    let n : Now = now_at p w.books s in
    let used = used_on Is f h' p o w s nth peer t.app_there t.slot_there e in
    let number : n.machine.nth ≡ nth = number_is (flows_of f) used.known.other s n nth peer used.known.sender e in
    let mark : w.numbering.home nth ≡ beside (s, ordinal) = w.tells.goes_on.same nth ended.made ∙ ended.home in
    let counted : (terms_at p s).ordinal ≡ ordinal = w.good.counted s (subst (λ k. s.app < k) (sym w.apps) t.app_there) t.slot_there ∙ ends in
    let shut = used.known.shut mark (ap (λ (x : ℕ). (s, x)) counted) number in
    sym (ap (h.sent s) ends) ∙ sym (w.tells.sent s) ∙ shut.sent
