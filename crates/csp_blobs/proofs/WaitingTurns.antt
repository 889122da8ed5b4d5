-- An application puts nothing while an answer is awaited: so far it asked no more than was answered, but for the note whose answer it awaits.
use Rattle.std.proofs.Common.{◌≡◌, ℕ, ◌+◌, ◌≤◌, ◌==◌, nat_lt, Bool, true, false, Option, Some, None, List, [], ◌∷◌, ◌++◌, slice_get, refl, sym, ap₂, ◌∙◌, subst, arith}
use Rattle.std.specs.Prelude.{⊤}
use Rattle.std.specs.Option.{option_map}
use Rattle.std.proofs.lemmas.Bool.{eq-eqb}
use Rattle.csp_app.specs.Asking.{asked, asks, handed}
use Rattle.csp_app.specs.Making.{note_in}
use Rattle.csp_app.specs.PlainApp.{PlainApp, opening}
use Rattle.csp_app.specs.PlainStep.{PlainStep}
use Rattle.csp_app.specs.PlainStep as step
use Rattle.csp_app.specs.Slots.{slot_at, used_on}
use Rattle.csp_app.specs.Steps as steps_of
use Rattle.csp_app.specs.Telling.{at_rest, tells, told_by}
use Rattle.csp_app.specs.ToldApp.{next}
use Rattle.csp_app.specs.Turn.{Turn, gives, giving_op, op_of, popped, pops, pushes, pushing_op, rests, takes, told_of, until_told}
use Rattle.csp_app.specs.declared.plan.AppPlan.{AppPlan}
use Rattle.csp_app.specs.declared.plan.AppPlan.TheVariants as plan
use Rattle.csp_buffer.specs.Content.{Content}
use Rattle.csp_deck.specs.Runs.{IsRun, step_after}
use Rattle.csp_log.specs.Pictures.{Fits}
use Rattle.csp_log.specs.declared.entry.Entry.{Entry}
use Rattle.csp_log.specs.declared.note.Note.{Note}
use Rattle.csp_log.specs.declared.note.Note.TheVariants as note
use Rattle.csp_log.specs.declared.places.QueueId.TheVariants as queue
use Rattle.csp_log.specs.declared.shown.AnswerShown.{AnswerShown}
use Rattle.csp_log.specs.declared.shown.AnswerShown.TheVariants as answer
use Rattle.csp_log.specs.declared.shown.ItemShown.{ItemShown}
use Rattle.csp_log.specs.declared.shown.ItemShown.TheVariants as item
use Rattle.csp_log.specs.declared.shown.OpShown.{OpShown}
use Rattle.csp_log.specs.declared.shown.OpShown.TheVariants as op
use Rattle.csp_consistent.specs.Reading.{got_by, gets, put_by, puts}
use Rattle.csp_prefix.specs.Apps.{app_steps}
use Rattle.csp_blobs.specs.Asking as asking
use Rattle.csp_blobs.specs.Asking.{WaitForAnswers, answered_in, asked_in, is_note}
use Rattle.csp_blobs.proofs.AnswerItems.{counted, counted_one, counts_append, none_counts, one_counts}

-- ---- what is awaited

-- the steps that ask
abbrev asks_at : Option PlainStep → Bool
asks_at (Some (step.Bind _ _)) = true
asks_at (Some (step.Connect _ _ _ _ _ _)) = true
asks_at (Some (step.Close _)) = true
asks_at _ = false

-- how many answers are awaited
abbrev awaited : (asked : Bool) → ℕ
awaited true = 1
awaited false = 0

few_awaited : (asked : Bool) → awaited asked ≤ 1
few_awaited true = omega arith
few_awaited false = omega arith

-- an answer is awaited at a step that asks alone
abbrev IsFor : (asked : Bool) → Option PlainStep → Type 0
IsFor true found = asks_at found ≡ true
IsFor false found = ⊤

none_awaited : (asked : Bool) (found : Option PlainStep) → IsFor asked found → asks_at found ≡ false → awaited asked ≡ 0
none_awaited true found h e = absurd (cc (h, e))
none_awaited false found h e = refl

-- a plan fits what is awaited: while an answer is, nothing is asked or put
abbrev PlansSo : Option PlainStep → ℕ → AppPlan → Type 0
PlansSo found n plan.Rest = ⊤
PlansSo found n plan.Return = ⊤
PlansSo found n plan.Look = ⊤
PlansSo found n plan.Await = ⊤
PlansSo found n (plan.Ask m) = (n ≡ 0) × (asks_at found ≡ true)
PlansSo found n _ = n ≡ 0

note_so : (found : Option PlainStep) (m : Note) (asked : Bool) → asks_at found ≡ true → PlansSo found (awaited asked) (steps_of.note_plan asked m)
note_so found m false e = (refl, e)
note_so found m true e = tt

give_so : (found : Option PlainStep) (n : ℕ) (held : List Content) → n ≡ 0 → PlansSo found n (steps_of.give_plan held)
give_so found n [] e = e
give_so found n (b ∷ bs) e = e

packet_so : (found : Option PlainStep) (n : ℕ) (made : Option Content) → n ≡ 0 → PlansSo found n (steps_of.packet_plan made)
packet_so found n None e = e
packet_so found n (Some b) e = e

recv_so : (found : Option PlainStep) (n slot packets : ℕ) (rounds since : Option ℕ) (enough : Bool) → n ≡ 0
    → PlansSo found n (steps_of.recv_plan slot packets rounds since enough)
recv_so found n slot packets rounds None true e = e
recv_so found n slot packets rounds None false e = e
recv_so found n slot packets rounds (Some time) enough e = e

step_so : (s : PlainApp) (found : Option PlainStep) → IsFor s.asked found → PlansSo found (awaited s.asked) (steps_of.step_plan s found)
step_so s None h = tt
step_so s (Some step.Take) h = none_awaited s.asked (Some step.Take) h refl
step_so s (Some step.Give) h = give_so (Some step.Give) (awaited s.asked) s.held (none_awaited s.asked (Some step.Give) h refl)
step_so s (Some (step.Bind port need)) h = note_so (Some (step.Bind port need)) (note.Bind port need) s.asked refl
step_so s (Some (step.Connect slot dest port prio flags from)) h =
    note_so (Some (step.Connect slot dest port prio flags from)) (note.Connect slot dest port prio flags from) s.asked refl
step_so s (Some (step.Send slot bytes)) h =
    packet_so (Some (step.Send slot bytes)) (awaited s.asked) s.made (none_awaited s.asked (Some (step.Send slot bytes)) h refl)
step_so s (Some (step.Burst slot count len)) h =
    packet_so (Some (step.Burst slot count len)) (awaited s.asked) s.made (none_awaited s.asked (Some (step.Burst slot count len)) h refl)
step_so s (Some (step.Blob slot len size)) h =
    packet_so (Some (step.Blob slot len size)) (awaited s.asked) s.made (none_awaited s.asked (Some (step.Blob slot len size)) h refl)
step_so s (Some (step.Raw header bytes)) h =
    packet_so (Some (step.Raw header bytes)) (awaited s.asked) s.made (none_awaited s.asked (Some (step.Raw header bytes)) h refl)
step_so s (Some (step.Recv slot count rounds)) h =
    recv_so (Some (step.Recv slot count rounds)) (awaited s.asked) slot count rounds s.since (steps_of.is_enough slot count s)
    (none_awaited s.asked (Some (step.Recv slot count rounds)) h refl)
step_so s (Some (step.Collect slot count rounds)) h =
    recv_so (Some (step.Collect slot count rounds)) (awaited s.asked) slot count rounds s.since (steps_of.is_enough slot count s)
    (none_awaited s.asked (Some (step.Collect slot count rounds)) h refl)
step_so s (Some (step.Close slot)) h = note_so (Some (step.Close slot)) (note.Close slot) s.asked refl
step_so s (Some (step.Wait rounds)) h = none_awaited s.asked (Some (step.Wait rounds)) h refl

first_so : (found : Option PlainStep) (n : ℕ) (taken : Option Content) (refused : Bool) (own : AppPlan) → PlansSo found n own
    → PlansSo found n (steps_of.first_rule taken refused own)
first_so found n (Some b) refused own h = tt
first_so found n None true own h = tt
first_so found n None false own h = h

abbrev found_in : PlainApp → Option PlainStep
found_in s = slice_get s.steps s.done

plan_so : (s : PlainApp) → IsFor s.asked (found_in s) → PlansSo (found_in s) (awaited s.asked) (steps_of.plan_of s)
plan_so s h = first_so (found_in s) (awaited s.asked) s.taken s.refused (steps_of.step_plan s (found_in s)) (step_so s (found_in s) h)

-- a turn of this plan asks nothing, and looks for no answer
abbrev IsCalm : AppPlan → Type 0
IsCalm (plan.Ask _) = ⊥
IsCalm plan.Await = ⊥
IsCalm _ = ⊤

-- an item, if there is one, asks nothing
abbrev AsksNothing : Option ItemShown → Type 0
AsksNothing None = ⊤
AsksNothing (Some i) = is_note asking.asks i ≡ false

-- ---- an application that awaits so many answers at least

module _ (number : ℕ) where
  abbrev Awaits : ℕ → PlainApp → Type 0
  Awaits n s = (s.number ≡ number) × IsFor s.asked (found_in s) × (n ≤ awaited s.asked)

  -- the next step is the present one
  awaits_next : (n : ℕ) (s : PlainApp) → n ≡ 0 → s.number ≡ number → Awaits n (next s)
  awaits_next n s e own = (own, tt, omega (arith, e))

  -- ---- a turn that asks nothing

  abbrev Leaves : ℕ → Turn → Type 0
  Leaves n (rests told) = Awaits n told.state
  Leaves n (takes taken none) = ((b : Content) → Awaits n (taken b).state) × Awaits n none.state
  Leaves n (gives c until given back) = Awaits n until × Awaits n given.state × ((b : Content) → Awaits n (back b).state)
  Leaves n (pushes i until pushed back) = AsksNothing i × Awaits n until × Awaits n pushed.state × ((i : ItemShown) → Awaits n (back i).state)
  Leaves n (pops until look) = Awaits n until × ((m : Option Note) (s : PlainApp) → Awaits n s → Awaits n (look m s).state)

  awaits_received : (n slot packets : ℕ) (enough passed down : Bool) (s : PlainApp) → n ≡ 0 → Awaits n s
      → Awaits n (steps_of.recv_end slot packets enough passed down s).state
  awaits_received n slot packets true passed down s e h = awaits_next n (record s { slots = used_on slot packets s.slots }) e h.0
  awaits_received n slot packets false true down s e h = awaits_next n s e h.0
  awaits_received n slot packets false false true s e h = awaits_next n s e h.0
  awaits_received n slot packets false false false s e h = h

  awaits_waited : (n : ℕ) (passed : Bool) (s : PlainApp) → n ≡ 0 → Awaits n s → Awaits n (steps_of.wait_end passed s).state
  awaits_waited n true s e h = awaits_next n s e h.0
  awaits_waited n false s e h = h

  awaits_pushed : (n : ℕ) (more : Bool) (s : PlainApp) → n ≡ 0 → Awaits n s → Awaits n (steps_of.pushed_one more s).state
  awaits_pushed n true s e h = h
  awaits_pushed n false s e h = awaits_next n s e h.0

  packet_asks : (mark : ℕ) (made : Option Content) → AsksNothing (option_map (λ b. item.Packet mark b) made)
  packet_asks mark None = tt
  packet_asks mark (Some b) = refl

  leaves : (n : ℕ) (s : PlainApp) (now : ℕ) (p : AppPlan) → IsCalm p → Awaits n s → PlansSo (found_in s) n p → Leaves n (steps_of.turn_of s now p)
  leaves n s now plan.Rest c h k = h
  leaves n s now plan.Return c h k = (h, h, λ b. h)
  leaves n s now plan.Look c h k = (h, λ m t g. g)
  leaves n s now plan.Take c h k = ((λ b. awaits_next n (record s { held = s.held ++ b ∷ [] }) k h.0), awaits_next n s k h.0)
  leaves n s now plan.Give c h k = (h, awaits_next n s k h.0, λ b. h)
  leaves n s now plan.Skip c h k = awaits_next n s k h.0
  leaves n s now (plan.Ask m) c h k = absurd c
  leaves n s now plan.Await c h k = absurd c
  leaves n s now plan.Fill c h k = ((λ b. h), h)
  leaves n s now plan.Push c h k = (packet_asks s.mark s.made, h, awaits_pushed n (nat_lt (s.sent + 1) (steps_of.batch s).count) s k h, λ i. h)
  leaves n s now (plan.Use slot packets) c h k = awaits_next n (record s { slots = used_on slot packets s.slots }) k h.0
  leaves n s now (plan.Receive slot packets rounds) c h k =
      (h, λ m t g. awaits_received n slot packets (steps_of.is_enough slot packets t) (steps_of.gives_up rounds now t) (slot_at t.slots slot).down t k g)
  leaves n s now (plan.Wait rounds) c h k = (h, λ m t g. awaits_waited n (steps_of.has_passed rounds now t) t k g)

  awaits_told : (n : ℕ) (s : PlainApp) (t : Turn) (a : AnswerShown) → Leaves n t → Awaits n s → Awaits n (told_of s t a).state
  awaits_told n s (rests told) answer.Nothing l h = l
  awaits_told n s (takes taken none) (answer.Taken b) l h = l.0 b
  awaits_told n s (takes taken none) answer.NoBuffer l h = l.1
  awaits_told n s (gives c until given back) answer.Given l h = l.1
  awaits_told n s (gives c until given back) (answer.PoolFull b) l h = l.2 b
  awaits_told n s (pushes i until pushed back) answer.Pushed l h = l.2
  awaits_told n s (pushes i until pushed back) (answer.Full j) l h = l.3 j
  awaits_told n s (pops until look) (answer.Popped i) l h = l.1 (note_in i) (popped i s) h
  awaits_told n s (pops until look) answer.Empty l h = l.1 None s h
  awaits_told n s _ _ l h = h

  awaits_until : (n : ℕ) (s : PlainApp) (t : Turn) → Leaves n t → Awaits n s → Awaits n (until_told s t)
  awaits_until n s (rests told) l h = h
  awaits_until n s (takes taken none) l h = h
  awaits_until n s (gives c until given back) l h = l.0
  awaits_until n s (pushes i until pushed back) l h = l.1
  awaits_until n s (pops until look) l h = l.0

  -- until it is told, the plan fits as before
  plan_stays : (n : ℕ) (s : PlainApp) (now : ℕ) (p : AppPlan) → IsCalm p → PlansSo (found_in s) n p → PlansSo (found_in (handed s now p)) n p
  plan_stays n s now (plan.Ask m) c k = absurd c
  plan_stays n s now plan.Await c k = absurd c
  plan_stays n s now _ c k = k

  giving_asks : (c : Option Content) (a : AnswerShown) → asked_in (put_by (queue.Up number) (giving_op c) a) ≡ 0
  giving_asks None a = refl
  giving_asks (Some b) a = refl

  pushing_asks : (own : ℕ) (i : Option ItemShown) (a : AnswerShown) → AsksNothing i → asked_in (put_by (queue.Up number) (pushing_op own i) a) ≡ 0
  pushing_asks own None a e = refl
  pushing_asks own (Some i) answer.Pushed e = none_counts asking.asks (own == number) i e
  pushing_asks own (Some i) _ e = refl

  nothing_asked : (n own : ℕ) (t : Turn) (a : AnswerShown) → Leaves n t → asked_in (put_by (queue.Up number) (op_of own t) a) ≡ 0
  nothing_asked n own (rests told) a l = refl
  nothing_asked n own (takes taken none) a l = refl
  nothing_asked n own (gives c until given back) a l = giving_asks c a
  nothing_asked n own (pushes i until pushed back) a l = pushing_asks own i a l.0
  nothing_asked n own (pops until look) a l = refl

  -- ---- what comes of a turn

  -- what it asked is answered, or awaited after it
  record Goes (n : ℕ) (op : OpShown) (a : AnswerShown) (s : PlainApp) : Type 0 where
    pub left : ℕ
    pub even : asked_in (put_by (queue.Up number) op a) + n ≤ answered_in (got_by (queue.Down number) op a) + left
    pub awaits : Awaits left s

  -- the application until it is told
  abbrev until : PlainApp → ℕ → AppPlan → PlainApp
  until s now p = at_rest (record (handed s now p) { doing = p })

  goes_calm : (n : ℕ) (s : PlainApp) (now : ℕ) (p : AppPlan) (a : AnswerShown) → IsCalm p → Awaits n s → PlansSo (found_in s) n p
      → Goes n (op_of s.number (steps_of.turn_of s now p)) a (told_by (until s now p) now p a).state
  goes_calm n s now p a c h k =
      let before : Leaves n (steps_of.turn_of s now p) = leaves n s now p c h k in
      let rest : PlainApp = until s now p in
      let awaits : Awaits n rest = awaits_until n s (steps_of.turn_of s now p) before h in
      record {
        left = n;
        even = omega (arith, nothing_asked n s.number (steps_of.turn_of s now p) a before);
        awaits = awaits_told n rest (steps_of.turn_of rest now p) a (leaves n rest now p c awaits (plan_stays n s now p c k)) awaits;
      }

  -- the note is pushed, and its answer awaited; or it comes back
  goes_ask : (n : ℕ) (s : PlainApp) (now : ℕ) (m : Note) (a : AnswerShown) → Awaits n s → PlansSo (found_in s) n (plan.Ask m)
      → Fits (op.Push (queue.Up s.number) (item.Note m)) a
      → Goes n (op.Push (queue.Up s.number) (item.Note m)) a (told_by (until s now (plan.Ask m)) now (plan.Ask m) a).state
  goes_ask n s now m answer.Pushed h k f =
      let one : asked_in (put_by (queue.Up number) (op.Push (queue.Up s.number) (item.Note m)) answer.Pushed) ≡ counted (s.number == number) (asking.asks m) =
      one_counts asking.asks (s.number == number) (item.Note m) in
      record { left = 1; even = omega (arith, one, counted_one (s.number == number) (asking.asks m), k.0); awaits = (h.0, k.1, omega arith) }
  goes_ask n s now m (answer.Full i) h k f = record { left = n; even = omega arith; awaits = h }
  goes_ask n s now m _ h k f = absurd f

  -- ---- an answer is looked for

  -- it came
  goes_over : (n : ℕ) (s t : PlainApp) (m : Note) → Awaits n s → t.number ≡ number → asking.answers m ≡ true
      → Goes n (op.Pop (queue.Down s.number)) (answer.Popped (item.Note m)) (next t)
  goes_over n s t m h own e =
      let one : answered_in (got_by (queue.Down number) (op.Pop (queue.Down s.number)) (answer.Popped (item.Note m))) ≡ counted true true =
      one_counts asking.answers (s.number == number) (item.Note m) ∙ ap₂ counted (eq-eqb s.number number h.0) e in
      record { left = 0; even = omega (arith, one, h.2, few_awaited s.asked); awaits = (own, tt, omega arith) }

  -- it did not
  goes_on : (n : ℕ) (s t : PlainApp) (a : AnswerShown) → Awaits n t → Goes n (op.Pop (queue.Down s.number)) a t
  goes_on n s t a h = record { left = n; even = omega arith; awaits = h }

  goes_await : (n : ℕ) (s : PlainApp) (now : ℕ) (a : AnswerShown) → Awaits n s
      → Goes n (op.Pop (queue.Down s.number)) a (told_by (until s now plan.Await) now plan.Await a).state
  goes_await n s now (answer.Popped (item.Note note.Bound)) h = goes_over n s (popped (item.Note note.Bound) (until s now plan.Await)) note.Bound h h.0 refl
  goes_await n s now (answer.Popped (item.Note (note.Connected slot))) h =
      goes_over n s (popped (item.Note (note.Connected slot)) (until s now plan.Await)) (note.Connected slot) h h.0 refl
  goes_await n s now (answer.Popped (item.Note (note.Refused why))) h =
      goes_over n s (popped (item.Note (note.Refused why)) (until s now plan.Await)) (note.Refused why) h h.0 refl
  goes_await n s now (answer.Popped (item.Note (note.Closed slot))) h =
      goes_over n s (popped (item.Note (note.Closed slot)) (until s now plan.Await)) (note.Closed slot) h h.0 refl
  goes_await n s now (answer.Popped (item.Note m)) h =
      goes_on n s (told_by (until s now plan.Await) now plan.Await (answer.Popped (item.Note m))).state (answer.Popped (item.Note m)) h
  goes_await n s now (answer.Popped (item.Packet mark b)) h =
      goes_on n s (told_by (until s now plan.Await) now plan.Await (answer.Popped (item.Packet mark b))).state (answer.Popped (item.Packet mark b)) h
  goes_await n s now (answer.Popped (item.Frame f)) h =
      goes_on n s (told_by (until s now plan.Await) now plan.Await (answer.Popped (item.Frame f))).state (answer.Popped (item.Frame f)) h
  goes_await n s now a h = goes_on n s (told_by (until s now plan.Await) now plan.Await a).state a h

  goes : (n : ℕ) (s : PlainApp) (now : ℕ) (p : AppPlan) (a : AnswerShown) → Awaits n s → PlansSo (found_in s) n p
      → Fits (op_of s.number (steps_of.turn_of s now p)) a
      → Goes n (op_of s.number (steps_of.turn_of s now p)) a (told_by (until s now p) now p a).state
  goes n s now (plan.Ask m) a h k f = goes_ask n s now m a h k f
  goes n s now plan.Await a h k f = goes_await n s now a h
  goes n s now p a h k f = goes_calm n s now p a tt h k

  -- an application that awaits so many at least, has all that it awaits
  plan_less : (found : Option PlainStep) (n more : ℕ) (p : AppPlan) → n ≤ more → PlansSo found more p → PlansSo found n p
  plan_less found n more plan.Rest l k = tt
  plan_less found n more plan.Return l k = tt
  plan_less found n more plan.Look l k = tt
  plan_less found n more plan.Await l k = tt
  plan_less found n more (plan.Ask m) l k = (omega (arith, l, k.0), k.1)
  plan_less found n more _ l k = omega (arith, l, k)

  step_goes : (n : ℕ) (s : PlainApp) (now : ℕ) (a : AnswerShown) → Awaits n s → Fits (asks s now) a → Goes n (asks s now) a (tells (asked s now) now a)
  step_goes n s now a h f =
      goes n s now (steps_of.plan_of s) a h (plan_less (found_in s) n (awaited s.asked) (steps_of.plan_of s) h.2 (plan_so s h.1)) f

  -- ---- what is put

  giving_puts : (c : Option Content) (a : AnswerShown) → put_by (queue.Up number) (giving_op c) a ≡ []
  giving_puts None a = refl
  giving_puts (Some b) a = refl

  -- only a turn that asks or pushes puts something, and then no answer is awaited
  puts_unasked : (s : PlainApp) (now n : ℕ) (p : AppPlan) (a : AnswerShown) (i : ItemShown) → PlansSo (found_in s) n p
      → put_by (queue.Up number) (op_of s.number (steps_of.turn_of s now p)) a ≡ i ∷ [] → n ≡ 0
  puts_unasked s now n plan.Rest a i k e = absurd cc
  puts_unasked s now n plan.Return a i k e = absurd (cc (e, giving_puts s.taken a))
  puts_unasked s now n plan.Look a i k e = absurd cc
  puts_unasked s now n plan.Await a i k e = absurd cc
  puts_unasked s now n (plan.Ask m) a i k e = k.0
  puts_unasked s now n _ a i k e = k

  -- ---- the run

  run_waits : (n : ℕ) (before after : List Entry) (own : Entry) (i : ItemShown) (time : ℕ) (s : PlainApp) → IsRun app_steps time s (before ++ own ∷ after)
      → put_by (queue.Up number) own.op own.answer ≡ i ∷ [] → Awaits n s
      → asked_in (puts (queue.Up number) before) + n ≤ answered_in (gets (queue.Down number) before)
  run_waits n [] after own i time s run put h =
      let none : awaited s.asked ≡ 0 =
      puts_unasked s own.time (awaited s.asked) (steps_of.plan_of s) own.answer i (plan_so s h.1)
      (subst (λ o. put_by (queue.Up number) o own.answer ≡ i ∷ []) run.1.op put) in
      omega (arith, h.2, none)
  run_waits n (e ∷ before) after own i time s run put h =
      let one : Goes n (asks s e.time) e.answer (step_after app_steps s e) = step_goes n s e.time e.answer h run.1.fits in
      let even : asked_in (put_by (queue.Up number) e.op e.answer) + n ≤ answered_in (got_by (queue.Down number) e.op e.answer) + one.left =
      subst (λ o. asked_in (put_by (queue.Up number) o e.answer) + n ≤ answered_in (got_by (queue.Down number) o e.answer) + one.left) (sym run.1.op)
      one.even in
      omega (
        arith,
        even,
        run_waits one.left before after own i e.time (step_after app_steps s e) run.2 put one.awaits,
        counts_append asking.asks (put_by (queue.Up number) e.op e.answer) (puts (queue.Up number) before),
        counts_append asking.answers (got_by (queue.Down number) e.op e.answer) (gets (queue.Down number) before),
      )

-- ---- the law

pub waits : WaitForAnswers
waits number steps es before after own i log e put =
    let start : PlainApp = opening number steps in
    let all : asked_in (puts (queue.Up number) before) + 0 ≤ answered_in (gets (queue.Down number) before) =
    run_waits number 0 before after own i 0 start (subst (IsRun app_steps 0 start) e log) put (refl, tt, omega arith) in
    omega (arith, all)
