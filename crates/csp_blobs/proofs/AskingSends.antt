-- What a router sends on a reliable connection is a beginning of what its application gives it on the slot from then on that the connection is open: while it
-- is open all of it, and nothing more once it is over.
use Rattle.std.proofs.Common.{◌≡◌, ◌≢◌, ◌⊎◌, inl, inr, ℕ, zero, suc, ◌+◌, ◌<◌, ◌≤◌, ◌==◌, Bool, true, false, cond, Option, Some, None, List, [], ◌∷◌, ◌++◌, length, refl, sym, ap, ◌∙◌, subst, arith}
use Rattle.std.specs.Prelude.{if◌then◌else◌}
use Rattle.std.specs.List.{AllByRecursion, count_by, flat_map, slice_get}
use Rattle.std.proofs.Math.Seq.{take-append_seam}
use Rattle.std.proofs.lemmas.Bool.{cases_lt, eq-eqb, eqb-true}
use Rattle.std.proofs.lemmas.Grind.{flat_map-append}
use Rattle.std.proofs.lemmas.List.{append-nil, append_assoc}
use Rattle.std.proofs.lemmas.List.Sums.{sum_by-cons}
use Rattle.csp_base.specs.Seat.{seat}
use Rattle.csp_base.specs.declared.seat.Seat.{Seat}
use Rattle.csp_buffer.specs.Content.{Content}
use Rattle.csp_conn.specs.PlainConns.{slot_at}
use Rattle.csp_base.specs.declared.limits.TheConstants.{SLOTS}
use Rattle.csp_conn.specs.declared.slot.Connection.{Connection}
use Rattle.csp_conn.specs.declared.slot.Slot.{Slot}
use Rattle.csp_conn.specs.declared.slot.Slot.TheVariants as has
use Rattle.csp_consistent.specs.Reading.{gets, got_by}
use Rattle.csp_deck.specs.Runs.{IsRun, IsStep}
use Rattle.csp_log.specs.Moving.{moved_by}
use Rattle.csp_log.specs.Noting.{noted_by as note_moved, noted_in}
use Rattle.csp_log.specs.declared.entry.Entry.{Entry}
use Rattle.csp_log.specs.declared.event.Event.{Event}
use Rattle.csp_log.specs.declared.event.Event.TheVariants as event
use Rattle.csp_log.specs.declared.places.QueueId.TheVariants as queue
use Rattle.csp_log.specs.declared.places.TheConstants.{UNMARKED}
use Rattle.csp_log.specs.declared.shown.AnswerShown.{AnswerShown}
use Rattle.csp_log.specs.declared.shown.AnswerShown.TheVariants as answer
use Rattle.csp_log.specs.declared.shown.ItemShown.TheVariants as item
use Rattle.csp_log.specs.declared.shown.OpShown.{OpShown}
use Rattle.csp_log.specs.declared.shown.OpShown.TheVariants as op
use Rattle.csp_ports.specs.Asking.{is_reliable}
use Rattle.csp_ports.specs.Packets.{submitting, submitting_in}
use Rattle.csp_ports.specs.PlainPorts.{machine_at, terms_at}
use Rattle.csp_ports.specs.Steps.{timed as ports_timed}
use Rattle.csp_prefix.proofs.Public.{IsEarly, sender-kept, IsAmong, Past, among_more, ends_of, no_past, with_openings, past_of, past_with, Stands, opening_stands, past, past_sent, stands_timed, told_since, TellsAt, entry_tells, events_are, packet_tells, timed_tells, timed_unsent}
use Rattle.csp_prefix.specs.Machines.{IsSender}
use Rattle.csp_prefix.specs.Ports.{IsInUse, IsSlot, now_at}
use Rattle.csp_prefix.specs.Prefix.{IsBeginning}
use Rattle.csp_prefix.specs.Routers.{ComesSo, router_steps}
use Rattle.csp_prefix.specs.Slots.{Book, Now, Numbering, blank}
use Rattle.csp_rdp.specs.declared.answers.State.{State as MachineState}
use Rattle.csp_rdp.specs.declared.answers.State.TheVariants as state
use Rattle.csp_record.specs.Connections.{opened_by}
use Rattle.csp_record.specs.Ordinals.{frees, ordinal_at}
use Rattle.csp_record.specs.Payloads.{carried, is_on, sent, told_on}
use Rattle.csp_record.specs.declared.connections.Opening.{Opening}
use Rattle.csp_record.specs.declared.payloads.Transfer.TheVariants as way
use Rattle.csp_record.proofs.Public.{Ends}
use Rattle.csp_stack.specs.Config.{opening_state}
use Rattle.csp_stack.specs.Router.{Facts, Leaving, State, at_rest, flows_of, router}
use Rattle.csp_stack.specs.Rules as rules
use Rattle.csp_stack.specs.Rules.{by_slot, sent_on, served}
use Rattle.csp_stack.specs.Told.{ported}
use Rattle.csp_stack.specs.Turn.{asked_at, until_answer, delivering, giving, plan_of, pushing, replying, timed, told_at, turn_of}
use Rattle.csp_stack.specs.declared.plan.Plan.{Plan}
use Rattle.csp_stack.specs.declared.plan.Plan.TheVariants as plan
use Rattle.csp_ports.specs.declared.owed.Owed.{Owed}
use Rattle.csp_ports.specs.declared.terms.Terms.{Terms}
use Rattle.csp_buffer.specs.PlainBuffer.{PlainBuffer}
use Rattle.csp_blobs.specs.Asking.{SendWhatComes}
use Rattle.csp_blobs.specs.Sending.{payload_on, pushed_on}
use Rattle.csp_scene.proofs.Public.{AllByRecursion-append}
use Rattle.csp_consistent.proofs.Public.{each_at}
use Rattle.csp_blobs.proofs.AskingTurns.{IsEnded, IsToldOf, ended_said, ends_so, opening_of, over_aim, senders, senders_aim, told_of, turns, turns_on, used_on}

-- ---- a turn that pops from an application

giving_not : (trash : List Content) (k : ℕ) → giving trash ≡ op.Pop (queue.Up k) → ⊥
giving_not [] k e = cc
giving_not (b ∷ bs) k e = cc

pushing_not : (o : Option Leaving) (k : ℕ) → pushing o ≡ op.Pop (queue.Up k) → ⊥
pushing_not None k e = cc
pushing_not (Some o) k e = cc

replying_not : (owed : List Owed) (k : ℕ) → replying owed ≡ op.Pop (queue.Up k) → ⊥
replying_not [] k e = cc
replying_not (o ∷ os) k e = cc

delivering_not : (o : Option PlainBuffer) (s : Seat) (k : ℕ) → delivering o s ≡ op.Pop (queue.Up k) → ⊥
delivering_not None s k e = cc
delivering_not (Some b) s k e = cc

-- serves it
serves : (f : Facts) (s : State) (time : ℕ) (p : Plan) (k : ℕ) → (turn_of f s time p).asks ≡ op.Pop (queue.Up k) → p ≡ plan.Serve k
serves f s time (plan.Serve j) k e = let same : j ≡ k = cc in ap plan.Serve same
serves f s time plan.Rest k e = absurd cc
serves f s time plan.Give k e = absurd (giving_not s.trash k e)
serves f s time (plan.Push q n) k e = absurd (pushing_not s.out k e)
serves f s time plan.Hear k e = absurd cc
serves f s time (plan.Reply j) k e = absurd (replying_not s.ports.owed k e)
serves f s time (plan.Tell seat) k e = absurd cc
serves f s time (plan.Deliver seat) k e = absurd (delivering_not _ seat k e)
serves f s time (plan.Make seat j) k e = absurd cc

-- the state in which an item of an application is served
abbrev serving : Facts → State → ℕ → ℕ → State
serving f s time app = at_rest (until_answer f (timed s time) time (plan.Serve app))

-- a turn popped this packet of an application
record IsPopped (e : Entry) (s : Seat) (b : Content) : Type 0 where
  asked : e.op ≡ op.Pop (queue.Up s.app)
  answered : e.answer ≡ answer.Popped (item.Packet s.slot b)

-- what it tells: what its timers do, and what comes of the packet
popped_events : (f : Facts) (s : State) (e : Entry) (seat : Seat) (b : Content) → IsStep router_steps (record { facts = f; state = s }) e → IsPopped e seat b
    → e.events.items ≡ (ports_timed e.time s.ports).events ++ (served f (serving f s e.time seat.app) e.time seat.app (item.Packet seat.slot b)).events
popped_events f s e seat b step p =
    let t : State = timed s e.time in
    let is : plan_of f t e.time ≡ plan.Serve seat.app = serves f t e.time (plan_of f t e.time) seat.app (sym step.op ∙ p.asked) in
    step.events ∙ events_are f s e.time e.answer (plan.Serve seat.app) is
    ∙ ap (λ a. (ports_timed e.time s.ports).events ++ ((turn_of f (serving f s e.time seat.app) e.time (plan.Serve seat.app)).told a).events) p.answered

-- a packet was lost, or one was sent on this slot
abbrev IsOfSlot : (slot : ℕ) → Event → Type 0
IsOfSlot slot (event.Discarded reason) = Unit {0}
IsOfSlot slot (event.Sent own ordinal) = own ≡ slot
IsOfSlot slot _ = ⊥

abbrev AreOfSlot : ℕ → List Event → Type 0
AreOfSlot slot es = AllByRecursion (IsOfSlot slot) es

popped_of_slot : (f : Facts) (s : State) (e : Entry) (seat : Seat) (b : Content) → IsStep router_steps (record { facts = f; state = s }) e → IsPopped e seat b → AreOfSlot seat.slot e.events.items
popped_of_slot f s e seat b step p =
    subst (AreOfSlot seat.slot) (sym (popped_events f s e seat b step p))
    (AllByRecursion-append (IsOfSlot seat.slot) (ports_timed e.time s.ports).events _ (timed_tells (IsOfSlot seat.slot) (λ reason. tt) e.time s.ports) (packet_tells (IsOfSlot seat.slot) (λ reason. tt) f (serving f s e.time seat.app) e.time seat.app seat.slot b (λ ordinal. refl)))

-- ---- what an entry tells to be sent on a slot, and what it popped for it
abbrev told_by_entry : Seat → Entry → List (List ℕ)
told_by_entry s e = told_on way.Sent s.slot e.events.items (carried way.Sent s.app (moved_by e.op e.answer))

abbrev popped_by_entry : Seat → Entry → List (List ℕ)
popped_by_entry s e = pushed_on s.slot (got_by (queue.Up s.app) e.op e.answer)

-- of one slot nothing is sent on another
of_other : (mark slot : ℕ) (es : List Event) (payload : List ℕ) → (mark == slot) ≡ false → AreOfSlot mark es → told_on way.Sent slot es (Some payload) ≡ []
of_other mark slot [] payload e all = refl
of_other mark slot (event.Discarded reason ∷ es) payload e all = of_other mark slot es payload e all.1
of_other mark slot (event.Sent own ordinal ∷ es) payload e all =
    let not_here : (own == slot) ≡ false = ap (λ k. k == slot) all.0 ∙ e in
    ap (λ b. (if b then payload ∷ [] else []) ++ told_on way.Sent slot es (Some payload)) not_here ∙ of_other mark slot es payload e all.1
of_other mark slot (_ ∷ es) payload e all = absurd all.0

-- an entry is idle on a slot, or popped a packet for it
record IsIdle (s : Seat) (e : Entry) : Type 0 where
  told : told_by_entry s e ≡ []
  popped : popped_by_entry s e ≡ []

data Kind (s : Seat) (o : OpShown) (a : AnswerShown) : Type 0 where
  idle : carried way.Sent s.app (moved_by o a) ≡ None → pushed_on s.slot (got_by (queue.Up s.app) o a) ≡ [] → Kind s o a
  pops : (mark : ℕ) (b : Content) → o ≡ op.Pop (queue.Up s.app) → a ≡ answer.Popped (item.Packet mark b) → Kind s o a

kind_of : (s : Seat) (o : OpShown) (a : AnswerShown) → Kind s o a
kind_of s (op.Pop (queue.Up k)) (answer.Popped (item.Packet mark b)) = by (k == s.app) refl
  where
    by : (t : Bool) → (k == s.app) ≡ t → Kind s (op.Pop (queue.Up k)) (answer.Popped (item.Packet mark b))
    by true e = pops mark b (ap (λ x. op.Pop (queue.Up x)) (eqb-true k s.app e)) refl
    by false e = idle (ap (λ t. if t then Some b.payload else None) e) (ap (λ t. pushed_on s.slot (if t then item.Packet mark b ∷ [] else [])) e)
kind_of s (op.Pop (queue.Up k)) (answer.Popped (item.Note n)) = idle refl (by (k == s.app))
  where
    by : (t : Bool) → pushed_on s.slot (if t then item.Note n ∷ [] else []) ≡ []
    by true = refl
    by false = refl
kind_of s (op.Pop (queue.Up k)) (answer.Popped (item.Frame x)) = idle refl (by (k == s.app))
  where
    by : (t : Bool) → pushed_on s.slot (if t then item.Frame x ∷ [] else []) ≡ []
    by true = refl
    by false = refl
kind_of s (op.Pop queue.Inbox) (answer.Popped (item.Packet mark b)) = idle refl refl
kind_of s (op.Pop (queue.Down k)) (answer.Popped (item.Packet mark b)) = idle refl refl
kind_of s (op.Pop (queue.Out k)) (answer.Popped (item.Packet mark b)) = idle refl refl
kind_of s (op.Pop (queue.Tx k)) (answer.Popped (item.Packet mark b)) = idle refl refl
kind_of s (op.Pop (queue.Rx k)) (answer.Popped (item.Packet mark b)) = idle refl refl
kind_of s (op.Pop queue.Inbox) (answer.Popped i) = idle refl refl
kind_of s (op.Pop (queue.Down k)) (answer.Popped i) = idle refl refl
kind_of s (op.Pop (queue.Out k)) (answer.Popped i) = idle refl refl
kind_of s (op.Pop (queue.Tx k)) (answer.Popped i) = idle refl refl
kind_of s (op.Pop (queue.Rx k)) (answer.Popped i) = idle refl refl
kind_of s (op.Push q (item.Packet mark b)) answer.Pushed = idle refl refl
kind_of s (op.Push q (item.Note n)) answer.Pushed = idle refl refl
kind_of s (op.Push q (item.Frame x)) answer.Pushed = idle refl refl
kind_of s _ _ = idle refl refl

-- it pops one, or nothing of it is told and popped
own_or_idle : (f : Facts) (s : State) (e : Entry) (at : Seat) → IsStep router_steps (record { facts = f; state = s }) e → ((b : Content) × IsPopped e at b) ⊎ IsIdle at e
own_or_idle f s e at step = by (kind_of at e.op e.answer)
  where
    by_mark : (mark : ℕ) (b : Content) (p : IsPopped e (seat at.app mark) b) (t : Bool) → (mark == at.slot) ≡ t → ((b : Content) × IsPopped e at b) ⊎ IsIdle at e
    by_mark mark b p true q = inl (b, subst (λ m. IsPopped e (seat at.app m) b) (eqb-true mark at.slot q) p)
    by_mark mark b p false q =
        let carries : carried way.Sent at.app (moved_by e.op e.answer) ≡ Some b.payload =
        ap (λ o. carried way.Sent at.app (moved_by o e.answer)) p.asked ∙ ap (λ a. carried way.Sent at.app (moved_by (op.Pop (queue.Up at.app)) a)) p.answered ∙ ap (λ t. if t then Some b.payload else None) (eq-eqb at.app at.app refl) in
        let got : got_by (queue.Up at.app) e.op e.answer ≡ item.Packet mark b ∷ [] =
        ap (λ o. got_by (queue.Up at.app) o e.answer) p.asked ∙ ap (λ a. got_by (queue.Up at.app) (op.Pop (queue.Up at.app)) a) p.answered ∙ ap (λ t. if t then item.Packet mark b ∷ [] else []) (eq-eqb at.app at.app refl) in
        inr (record {
          told = ap (told_on way.Sent at.slot e.events.items) carries ∙ of_other mark at.slot e.events.items b.payload q (popped_of_slot f s e (seat at.app mark) b step p);
          popped = ap (pushed_on at.slot) got ∙ ap (λ t. (if t then b.payload ∷ [] else []) ++ []) q;
        })

    by : Kind at e.op e.answer → ((b : Content) × IsPopped e at b) ⊎ IsIdle at e
    by (idle none nothing) = inr (record { told = ap (told_on way.Sent at.slot e.events.items) none; popped = nothing })
    by (pops mark b o a) = by_mark mark b (record { asked = o; answered = a }) (mark == at.slot) refl

popped_one : (e : Entry) (s : Seat) (b : Content) → IsPopped e s b → popped_by_entry s e ≡ b.payload ∷ []
popped_one e s b p =
    ap (λ o. pushed_on s.slot (got_by (queue.Up s.app) o e.answer)) p.asked ∙ ap (λ a. pushed_on s.slot (got_by (queue.Up s.app) (op.Pop (queue.Up s.app)) a)) p.answered
    ∙ ap (λ t. pushed_on s.slot (if t then item.Packet s.slot b ∷ [] else [])) (eq-eqb s.app s.app refl) ∙ ap (λ t. (if t then b.payload ∷ [] else []) ++ []) (eq-eqb s.slot s.slot refl)

-- ---- the ends of a slot

-- a turn that frees a slot sends nothing
frees_none : (s : Seat) (o : OpShown) (a : AnswerShown) → frees way.Sent s (note_moved o a) ≡ true → carried way.Sent s.app (moved_by o a) ≡ None
frees_none s (op.Push q (item.Note n)) answer.Pushed e = refl
frees_none s (op.Push q (item.Packet mark b)) answer.Pushed e = refl
frees_none s (op.Push q (item.Frame x)) answer.Pushed e = refl
frees_none s (op.Pop q) (answer.Popped (item.Packet mark b)) e = absurd cc
frees_none s (op.Pop q) (answer.Popped (item.Note n)) e = refl
frees_none s (op.Pop q) (answer.Popped (item.Frame x)) e = refl
frees_none s _ _ e = refl

-- nor does one that pops a packet free any
popped_frees : (e : Entry) (s : Seat) (b : Content) → IsPopped e s b → frees way.Sent s (note_moved e.op e.answer) ≡ false
popped_frees e s b p = ap (λ o. frees way.Sent s (note_moved o e.answer)) p.asked ∙ ap (λ a. frees way.Sent s (note_moved (op.Pop (queue.Up s.app)) a)) p.answered

-- what is told of an ordinal that is over
chosen_not : (n o : ℕ) (xs : List (List ℕ)) → o < n → (if n == o then xs else []) ≡ []
chosen_not n o xs lt = by (n == o) refl
  where
    by : (t : Bool) → (n == o) ≡ t → (if t then xs else []) ≡ []
    by true e = let same = eqb-true n o e in absurd (omega (arith, lt, same))
    by false e = refl

chosen_is : (n o : ℕ) (xs : List (List ℕ)) → n ≡ o → (if n == o then xs else []) ≡ xs
chosen_is n o xs e = ap (λ t. if t then xs else []) (eq-eqb n o e)

ended_more : (b : Bool) (n : ℕ) → n ≤ (if b then n + 1 else n)
ended_more true n = omega arith
ended_more false n = omega arith

-- once its slot was freed nothing more is told of a connection
later_same : (es : List Entry) (h : Past) (s : Seat) (ordinal : ℕ) → ordinal < h.ends s → (past_of es h).sent s ordinal ≡ h.sent s ordinal
later_same [] h s ordinal lt = refl
later_same (e ∷ es) h s ordinal lt =
    let more = ended_more (frees way.Sent s (note_moved e.op e.answer)) (h.ends s) in
    later_same es (past_with e h) s ordinal (omega (arith, lt, more))
    ∙ ap (λ xs. h.sent s ordinal ++ xs) (chosen_not (h.ends s) ordinal (told_by_entry s e) lt) ∙ append-nil (h.sent s ordinal)

begins_with : (xs ys zs : List (List ℕ)) → zs ≡ xs → IsBeginning zs (xs ++ ys)
begins_with xs ys zs e = record { rest = ys; whole = ap (λ us. us ++ ys) e }

open_or_not : (s : MachineState) → (s ≡ state.Open) ⊎ (s ≢ state.Open)
open_or_not state.Open = inl refl
open_or_not state.SynSent = inr (λ e. cc)
open_or_not state.SynRcvd = inr (λ e. cc)
open_or_not state.CloseWait = inr (λ e. cc)
open_or_not state.Closed = inr (λ e. cc)

-- ---- a connection that is over

module _ (f : Facts) (seat : Seat) (ordinal nth : ℕ) (peer : Option (ℕ × ℕ)) where
  abbrev x : Opening
  x = opening_of seat.slot ordinal nth peer

  -- the next state
  abbrev next : State → Entry → State
  next s e = (told_at f (asked_at f s e.time) e.time e.answer).state

  ended_turns : (said : List (List ℕ)) (e : Entry) (h : Past) (s : State) → IsStep router_steps (record { facts = f; state = s }) e → ComesSo e.op e.answer → IsEnded f seat ordinal nth said h s.ports s.out
      → IsEnded f seat ordinal nth said (past_with e h) (next s e).ports (next s e).out
  ended_turns said e h s step comes ended = record {
    since = ended.since;
    made = ended.made;
    home = ended.home;
    stands = turns _ f (over_aim f (seat, ordinal) nth said) e (told_since ended.since h) s step comes ended.stands;
  }

  pub ended_same : (es : List Entry) (time : ℕ) (said : List (List ℕ)) (h : Past) (s : State) → IsRun router_steps time (record { facts = f; state = s }) es → AllByRecursion (λ e. ComesSo e.op e.answer) es
      → IsEnded f seat ordinal nth said h s.ports s.out → IsAmong x (h.opened seat.app) → h.ends seat ≡ ordinal → h.sent seat ordinal ≡ said → (past_of es h).sent seat ordinal ≡ said
  ended_same [] time said h s run comes ended among ends same = same
  ended_same (e ∷ es) time said h s run comes ended among ends same =
      by (λ stays. ended_same es e.time said k (next s e) run.2 comes.1 after more stays (ended_said f seat ordinal nth peer said k (next s e).ports (next s e).out after more stays)) (frees way.Sent seat (note_moved e.op e.answer)) refl
    where
      k : Past
      k = past_with e h

      after : IsEnded f seat ordinal nth said k (next s e).ports (next s e).out
      after = ended_turns said e h s run.1 comes.0 ended

      more : IsAmong x (k.opened seat.app)
      more = among_more x (h.opened seat.app) _ among

      by : (k.ends seat ≡ ordinal → (past_of es k).sent seat ordinal ≡ said) → (t : Bool) → frees way.Sent seat (note_moved e.op e.answer) ≡ t → (past_of es k).sent seat ordinal ≡ said
      by rest true q =
          let over : k.ends seat ≡ h.ends seat + 1 = ap (λ t. if t then h.ends seat + 1 else h.ends seat) q in
          let none : told_by_entry seat e ≡ [] = ap (told_on way.Sent seat.slot e.events.items) (frees_none seat e.op e.answer q) in
          later_same es k seat ordinal (omega (arith, over, ends))
          ∙ ap (λ xs. h.sent seat ordinal ++ xs) (chosen_is (h.ends seat) ordinal (told_by_entry seat e) ends ∙ none) ∙ append-nil (h.sent seat ordinal) ∙ same
      by rest false q = rest (ap (λ t. if t then h.ends seat + 1 else h.ends seat) q ∙ ends)

  -- ---- one that is open

  not_unmarked : seat.slot < SLOTS → (seat.slot == UNMARKED) ≡ false
  not_unmarked low = by (seat.slot == UNMARKED) refl
    where
      by : (t : Bool) → (seat.slot == UNMARKED) ≡ t → t ≡ false
      by false e = refl
      by true e = let same = eqb-true seat.slot UNMARKED e in absurd (omega (arith, low, same))

  -- a packet for it is sent
  served_sends : (s : State) (time : ℕ) (b : Content) (c : Connection) → seat.slot < SLOTS → slot_at s.ports.conns seat ≡ has.Open c → is_reliable (terms_at s.ports seat).flags ≡ true → (machine_at s.ports seat).state ≡ state.Open
      → (served f s time seat.app (item.Packet seat.slot b)).events ≡ event.Sent seat.slot (terms_at s.ports seat).ordinal ∷ []
  served_sends s time b c low there reliable is_open =
      ap (λ u. (if u then rules.sent f s b else by_slot (slot_at s.ports.conns seat) (router f s) seat time b).events) (not_unmarked low) ∙ ap (λ o. (by_slot o (router f s) seat time b).events) there
      ∙ ap (λ r. (if r then ported s (submitting s.ports seat b time) else sent_on c (router f s) seat b).events) reliable
      ∙ ap (λ m. (submitting_in m s.ports seat b time).events) is_open

  -- and told once
  sends_one : (s : State) (e : Entry) (b : Content) (c : Connection) → IsStep router_steps (record { facts = f; state = s }) e → IsPopped e seat b → seat.slot < SLOTS → slot_at (timed s e.time).ports.conns seat ≡ has.Open c
      → is_reliable (terms_at (timed s e.time).ports seat).flags ≡ true → (machine_at (timed s e.time).ports seat).state ≡ state.Open → told_by_entry seat e ≡ b.payload ∷ []
  sends_one s e b c step p low there reliable is_open =
      let early : List Event = (ports_timed e.time s.ports).events in
      let sends : Event = event.Sent seat.slot (terms_at (timed s e.time).ports seat).ordinal in
      let all : e.events.items ≡ early ++ sends ∷ [] = popped_events f s e seat b step p ∙ ap (λ es. early ++ es) (served_sends (serving f s e.time seat.app) e.time b c low there reliable is_open) in
      let carries : carried way.Sent seat.app (moved_by e.op e.answer) ≡ Some b.payload =
      ap (λ o. carried way.Sent seat.app (moved_by o e.answer)) p.asked ∙ ap (λ a. carried way.Sent seat.app (moved_by (op.Pop (queue.Up seat.app)) a)) p.answered ∙ ap (λ t. if t then Some b.payload else None) (eq-eqb seat.app seat.app refl) in
      ap (told_on way.Sent seat.slot e.events.items) carries ∙ ap (λ es. told_on way.Sent seat.slot es (Some b.payload)) all
      ∙ flat_map-append (λ v. if is_on way.Sent seat.slot v then b.payload ∷ [] else []) early (sends ∷ [])
      ∙ ap (λ xs. xs ++ told_on way.Sent seat.slot (sends ∷ []) (Some b.payload)) (timed_unsent e.time s.ports seat.slot (Some b.payload))
      ∙ ap (λ t. (if t then b.payload ∷ [] else []) ++ []) (eq-eqb seat.slot seat.slot refl)

  -- what is sent by these entries, where so much was sent and popped before
  abbrev Sends : List Entry → Past → List (List ℕ) → Type 0
  Sends es h said = IsBeginning ((past_of es h).sent seat ordinal) (said ++ pushed_on seat.slot (gets (queue.Up seat.app) es))

  gets_more : (e : Entry) (es : List Entry) → pushed_on seat.slot (gets (queue.Up seat.app) (e ∷ es)) ≡ popped_by_entry seat e ++ pushed_on seat.slot (gets (queue.Up seat.app) es)
  gets_more e es = flat_map-append (payload_on seat.slot) (got_by (queue.Up seat.app) e.op e.answer) (gets (queue.Up seat.app) es)

  pub opens_begin : (es : List Entry) (time : ℕ) (said : List (List ℕ)) (h : Past) (s : State) → IsRun router_steps time (record { facts = f; state = s }) es → AllByRecursion (λ e. ComesSo e.op e.answer) es
      → Stands (senders f) f h s.ports s.out → IsAmong x (h.opened seat.app) → h.ends seat ≡ ordinal → h.sent seat ordinal ≡ said → Sends es h said
  opens_begin [] time said h s run comes w among ends same = begins_with said [] (h.sent seat ordinal) same
  opens_begin (e ∷ es) time said h s run comes w among ends same = by (λ given stays so. opens_begin es e.time given k (next s e) run.2 comes.1 after more stays so) (own_or_idle f s e seat run.1)
    where
      k : Past
      k = past_with e h

      t : State
      t = timed s e.time

      early : List Event
      early = (ports_timed e.time s.ports).events

      after : Stands (senders f) f k (next s e).ports (next s e).out
      after = turns _ f (senders_aim f) e h s run.1 comes.0 w

      more : IsAmong x (k.opened seat.app)
      more = among_more x (h.opened seat.app) _ among

      sent_then : k.sent seat ordinal ≡ said ++ told_by_entry seat e
      sent_then = ap (λ xs. h.sent seat ordinal ++ xs) (chosen_is (h.ends seat) ordinal (told_by_entry seat e) ends) ∙ ap (λ xs. xs ++ told_by_entry seat e) same

      -- what follows for the rest, where so much was sent and popped so far
      Rest : Type 0
      Rest = (given : List (List ℕ)) → k.ends seat ≡ ordinal → k.sent seat ordinal ≡ given → Sends es k given

      -- it is idle
      idly : Rest → IsIdle seat e → (b : Bool) → frees way.Sent seat (note_moved e.op e.answer) ≡ b → Sends (e ∷ es) h said
      idly go i true q =
          let over : k.ends seat ≡ h.ends seat + 1 = ap (λ b. if b then h.ends seat + 1 else h.ends seat) q in
          begins_with said _ _ (later_same es k seat ordinal (omega (arith, over, ends)) ∙ sent_then ∙ ap (λ xs. said ++ xs) i.told ∙ append-nil said)
      idly go i false q =
          let stays : k.ends seat ≡ ordinal = ap (λ b. if b then h.ends seat + 1 else h.ends seat) q ∙ ends in
          let rest : Sends es k said = go said stays (sent_then ∙ ap (λ xs. said ++ xs) i.told ∙ append-nil said) in
          subst (λ ys. IsBeginning ((past_of es k).sent seat ordinal) (said ++ ys)) (sym (gets_more e es ∙ ap (λ ys. ys ++ pushed_on seat.slot (gets (queue.Up seat.app) es)) i.popped)) rest

      -- it pops a packet for the connection, which is open once the timers were tried, or over
      v : Stands (senders f) f (with_openings early h) t.ports t.out
      v = stands_timed (senders f) f k (senders_aim f k) h s e.time w

      there : IsAmong x ((with_openings early h).opened seat.app)
      there = among_more x (h.opened seat.app) _ among

      known : IsToldOf f (with_openings early h) seat ordinal nth peer v.books
      known = told_of _ f (with_openings early h) t.ports t.out v seat ordinal nth peer there

      opened : (v.books seat).opened ≡ Some (Some nth, peer)
      opened = known.opened (sym ends)

      serve : Rest → (b : Content) → IsPopped e seat b → ((machine_at t.ports seat).state ≡ state.Open) ⊎ ((machine_at t.ports seat).state ≢ state.Open) → Sends (e ∷ es) h said
      serve go b p (inl is_open) =
          let used = used_on _ f (with_openings early h) t.ports t.out v seat nth peer known.app_there known.slot_there opened in
          let one : told_by_entry seat e ≡ b.payload ∷ [] = sends_one s e b used.connection run.1 p known.slot_there used.there used.reliable is_open in
          let stays : k.ends seat ≡ ordinal = ap (λ b. if b then h.ends seat + 1 else h.ends seat) (popped_frees e seat b p) ∙ ends in
          let rest : Sends es k (said ++ b.payload ∷ []) = go (said ++ b.payload ∷ []) stays (sent_then ∙ ap (λ xs. said ++ xs) one) in
          let whole : (said ++ b.payload ∷ []) ++ pushed_on seat.slot (gets (queue.Up seat.app) es) ≡ said ++ pushed_on seat.slot (gets (queue.Up seat.app) (e ∷ es)) =
          append_assoc said (b.payload ∷ []) (pushed_on seat.slot (gets (queue.Up seat.app) es)) ∙ ap (λ ys. said ++ ys) (sym (gets_more e es ∙ ap (λ ys. ys ++ pushed_on seat.slot (gets (queue.Up seat.app) es)) (popped_one e seat b p))) in
          subst (IsBeginning ((past_of es k).sent seat ordinal)) whole rest
      serve go b p (inr shut) =
          let given : List (List ℕ) = (v.books seat).sent in
          let so : given ≡ said = v.tells.sent seat ∙ ap (h.sent seat) ends ∙ same in
          let ended : IsEnded f seat ordinal nth said (with_openings early h) t.ports t.out =
          subst (λ y. IsEnded f seat ordinal nth y (with_openings early h) t.ports t.out) so (ends_so f (with_openings early h) t.ports t.out v seat ordinal nth peer known.app_there known.slot_there opened shut) in
          let after_it : IsEnded f seat ordinal nth said k (next s e).ports (next s e).out = record {
            since = ended.since;
            made = ended.made;
            home = ended.home;
            stands = turns_on _ f (over_aim f (seat, ordinal) nth said) e (told_since ended.since h) s run.1 comes.0 ended.stands;
          } in
          let stays : k.ends seat ≡ ordinal = ap (λ b. if b then h.ends seat + 1 else h.ends seat) (popped_frees e seat b p) ∙ ends in
          begins_with said _ _ (ended_same es e.time said k (next s e) run.2 comes.1 after_it more stays (ended_said f seat ordinal nth peer said k (next s e).ports (next s e).out after_it more stays))

      by : Rest → ((b : Content) × IsPopped e seat b) ⊎ IsIdle seat e → Sends (e ∷ es) h said
      by go (inl p) = serve go p.0 p.1 (open_or_not (machine_at t.ports seat).state)
      by go (inr i) = idly go i (frees way.Sent seat (note_moved e.op e.answer)) refl

-- ---- the entry that tells of the opening

among_after : (y : Opening) (xs ys : List Opening) → IsAmong y ys → IsAmong y (xs ++ ys)
among_after y [] ys a = a
among_after y (x ∷ xs) ys a = let rest = among_after y xs ys a in record { at = suc rest.at; there = rest.there }

event_among : (app : ℕ) (ends : Ends) (es : List Event) (at slot nth : ℕ) (peer : Option (ℕ × ℕ)) → slice_get es at ≡ Some (event.Opened app slot (Some nth) peer) → IsAmong (opening_of slot (ends slot) nth peer) (flat_map (opened_by app ends) es)
event_among app ends [] at slot nth peer e = absurd cc
event_among app ends (v ∷ vs) zero slot nth peer e =
    let same : event.Opened app slot (Some nth) peer ≡ v = cc in
    let y : Opening = opening_of slot (ends slot) nth peer in
    let own : y ∷ [] ≡ opened_by app ends v = sym (ap (λ t. if t then y ∷ [] else []) (eq-eqb app app refl)) ∙ ap (opened_by app ends) same in
    subst (λ ys. IsAmong y (ys ++ flat_map (opened_by app ends) vs)) own (record { at = 0; there = refl })
event_among app ends (v ∷ vs) (suc at) slot nth peer e = among_after _ (opened_by app ends v) (flat_map (opened_by app ends) vs) (event_among app ends vs at slot nth peer e)

early_is : (s : MachineState) → IsEarly s → (s ≡ state.SynSent) ⊎ (s ≡ state.SynRcvd)
early_is state.SynSent early = inl refl
early_is state.SynRcvd early = inr refl
early_is state.Open early = absurd early
early_is state.CloseWait early = absurd early
early_is state.Closed early = absurd early

-- nothing is told of a connection that is to become open
module _ (f : Facts) (m : Numbering) (s : Seat) (n : Now) (early : IsEarly n.machine.state) where
  use_blank : (b : Bool) → IsInUse (IsSender (flows_of f)) b m s n → n.book ≡ blank
  use_blank true is = ((sender-kept (flows_of f)).early m s n is (early_is n.machine.state early)).0
  use_blank false is = absurd (subst (λ r. IsEarly r.state) is.machine early)

  slot_blank : (x : Slot) (t : Terms) → IsSlot (IsSender (flows_of f)) x t m s n → n.book ≡ blank
  slot_blank has.Free t is = is.0.book
  slot_blank has.Held t is = is.book
  slot_blank (has.Open c) t is = use_blank (is_reliable t.flags) is

-- so nothing was sent on it before, and nothing by that entry
nothing_sent : (f : Facts) (e : Entry) (h : Past) (s : State) (seat : Seat) (at nth : ℕ) (peer : Option (ℕ × ℕ)) → IsStep router_steps (record { facts = f; state = s }) e → Stands (senders f) f h s.ports s.out → seat.app < f.apps → seat.slot < SLOTS
    → slice_get e.events.items at ≡ Some (event.Opened seat.app seat.slot (Some nth) peer) → (past_with e h).sent seat (h.ends seat) ≡ []
nothing_sent f e h s seat at nth peer step w few low there =
    let t : State = timed s e.time in
    let early : List Event = (ports_timed e.time s.ports).events in
    let v = stands_timed (senders f) f h (senders_aim f h) h s e.time w in
    let tells = entry_tells (record { facts = f; state = s }) e step in
    let was : IsEarly (machine_at t.ports seat).state = not_plain (each_at (TellsAt f t.ports e.op e.answer) e.events.items at (event.Opened seat.app seat.slot (Some nth) peer) tells there) in
    let n : Now = now_at t.ports v.books seat in
    let is : n.book ≡ blank = slot_blank f v.numbering seat n was (slot_at t.ports.conns seat) (terms_at t.ports seat) (v.good.slots seat (subst (λ k. seat.app < k) (sym v.apps) few) low) in
    let before : h.sent seat (h.ends seat) ≡ [] = sym (v.tells.sent seat) ∙ ap (λ (b : Book). b.sent) is in
    let now : told_by_entry seat e ≡ [] = by (own_or_idle f s e seat step) in
    ap (λ xs. xs ++ (if h.ends seat == h.ends seat then told_by_entry seat e else [])) before
    ∙ chosen_is (h.ends seat) (h.ends seat) (told_by_entry seat e) refl ∙ now
  where
    not_plain : {X : Type 0} → (◌≡◌ {A = Option ℕ} (Some nth) None) ⊎ X → X
    not_plain (inl e) = absurd cc
    not_plain (inr early) = early

    by : ((b : Content) × IsPopped e seat b) ⊎ IsIdle seat e → told_by_entry seat e ≡ []
    by (inl p) = absurd (each_at (IsOfSlot seat.slot) e.events.items at (event.Opened seat.app seat.slot (Some nth) peer) (popped_of_slot f s e seat p.0 step p.1) there)
    by (inr i) = i.told

-- ---- the whole log

record IsReached (f : Facts) (rest : List Entry) (h : Past) : Type 0 where
  time : ℕ
  last : State
  run : IsRun router_steps time (record { facts = f; state = last }) rest
  comes : AllByRecursion (λ e. ComesSo e.op e.answer) rest
  stands : Stands (senders f) f h last.ports last.out

reaches : (f : Facts) (first rest : List Entry) (time : ℕ) (h : Past) (s : State) → IsRun router_steps time (record { facts = f; state = s }) (first ++ rest) → AllByRecursion (λ e. ComesSo e.op e.answer) (first ++ rest)
    → Stands (senders f) f h s.ports s.out → IsReached f rest (past_of first h)
reaches f [] rest time h s run comes w = record { time = time; last = s; run = run; comes = comes; stands = w }
reaches f (e ∷ first) rest time h s run comes w =
    reaches f first rest e.time (past_with e h) (told_at f (asked_at f s e.time) e.time e.answer).state run.2 comes.1 (turns _ f (senders_aim f) e h s run.1 comes.0 w)

past_both : (first rest : List Entry) (h : Past) → past_of (first ++ rest) h ≡ past_of rest (past_of first h)
past_both [] rest h = refl
past_both (e ∷ first) rest h = past_both first rest (past_with e h)

-- how often a slot was freed
abbrev frees_in : (s : Seat) → List Entry → ℕ
frees_in s es = count_by (λ e. frees way.Sent s (noted_in e)) es

reads_ends : (es : List Entry) (h : Past) (s : Seat) → (past_of es h).ends s ≡ h.ends s + frees_in s es
reads_ends [] h s = omega arith
reads_ends (e ∷ es) h s =
    by (frees way.Sent s (note_moved e.op e.answer)) (h.ends s) (frees_in s es) (reads_ends es (past_with e h) s)
    ∙ ap (λ n. h.ends s + n) (sym (sum_by-cons (λ v. cond (frees way.Sent s (noted_in v)) 1 0) e es))
  where
    by : (b : Bool) (n c : ℕ) → (past_of es (past_with e h)).ends s ≡ (if b then n + 1 else n) + c → (past_of es (past_with e h)).ends s ≡ n + (cond b 1 0 + c)
    by true n c q = omega (arith, q)
    by false n c q = omega (arith, q)

since_opening : (f : Facts) (es : List Entry) (time : ℕ) (h : Past) (s : State) (seat : Seat) (ordinal nth : ℕ) (peer : Option (ℕ × ℕ)) → ordinal ≤ h.ends seat → IsRun router_steps time (record { facts = f; state = s }) es
    → AllByRecursion (λ e. ComesSo e.op e.answer) es → Stands (senders f) f h s.ports s.out → IsAmong (opening_of seat.slot ordinal nth peer) (h.opened seat.app) → h.sent seat ordinal ≡ []
    → IsBeginning ((past_of es h).sent seat ordinal) (pushed_on seat.slot (gets (queue.Up seat.app) es))
since_opening f es time h s seat ordinal nth peer le run comes w among none = by (cases_lt ordinal (h.ends seat))
  where
    by : (ordinal < h.ends seat) ⊎ (h.ends seat ≤ ordinal) → IsBeginning ((past_of es h).sent seat ordinal) (pushed_on seat.slot (gets (queue.Up seat.app) es))
    by (inl lt) = begins_with [] _ _ (later_same es h seat ordinal lt ∙ none)
    by (inr ge) = opens_begin f seat ordinal nth peer es time [] h s run comes w among (omega (arith, le, ge)) none

pub sends_what_comes : SendWhatComes
sends_what_comes f routes es first later own seat nth at peer log whole there =
    let run = subst (IsRun router_steps 0 (record { facts = f; state = opening_state f.apps routes })) whole log.run in
    let comes = subst (AllByRecursion (λ (e : Entry). ComesSo e.op e.answer)) whole log.comes in
    let k = past es in
    let reached = reaches f first (own ∷ later) 0 no_past (opening_state f.apps routes) run comes (opening_stands (senders f) f es (senders_aim f k) log.few) in
    let h : Past = past first in
    let s : State = reached.last in
    let h' : Past = past_with own h in
    let n : ℕ = h.ends seat in
    let s' : State = (told_at f (asked_at f s own.time) own.time own.answer).state in
    let w : Stands (senders f) f h' s'.ports s'.out = turns _ f (senders_aim f) own h s reached.run.1 reached.comes.0 reached.stands in
    let among : IsAmong (opening_of seat.slot n nth peer) (h'.opened seat.app) = among_after _ (h.opened seat.app) _ (event_among seat.app (ends_of seat.app h) own.events.items at seat.slot nth peer there) in
    let told = told_of _ f h' s'.ports s'.out w seat n nth peer among in
    let none : h'.sent seat n ≡ [] = nothing_sent f own h s seat at nth peer reached.run.1 reached.stands told.app_there told.slot_there there in
    let ends : n ≡ 0 + frees_in seat first = reads_ends first no_past seat in
    let counted : frees_in seat first ≡ n = omega (arith, ends) in
    let ordinal : ordinal_at way.Sent seat es (length first) ≡ n =
    ap (λ xs. ordinal_at way.Sent seat xs (length first)) whole ∙ ap (λ (xs : List Entry). frees_in seat xs) (take-append_seam first (own ∷ later)) ∙ counted in
    let all : (past_of later h').sent seat n ≡ sent seat n es =
    ap (λ (y : Past). y.sent seat n) (sym (past_both first (own ∷ later) no_past) ∙ ap past (sym whole)) ∙ past_sent es seat n in
    subst (λ o. IsBeginning (sent seat o es) (pushed_on seat.slot (gets (queue.Up seat.app) later))) (sym ordinal)
    (subst (λ xs. IsBeginning xs (pushed_on seat.slot (gets (queue.Up seat.app) later))) all
    (since_opening f later own.time h' s' seat n nth peer (ended_more (frees way.Sent seat (note_moved own.op own.answer)) n) reached.run.2 reached.comes.1 w among none))
