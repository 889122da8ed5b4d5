-- What an application puts into a queue is what its steps put there: the packets that they make, and the notes that they ask.
use Rattle.std.proofs.Common.{◌≡◌, ℕ, ◌+◌, Bool, true, false, Option, Some, None, List, [], ◌∷◌, refl, sym, subst}
use Rattle.std.specs.Prelude.{nat_lt, slice_get, IfSome, ⊤}
use Rattle.std.specs.List.{AllByRecursion}
use Rattle.std.specs.Option.{option_map}
use Rattle.csp_app.specs.Asking.{asked, asks}
use Rattle.csp_app.specs.Making.{batch_at, batch_of, filled, mark_in, no_packets, note_in, packet_in}
use Rattle.csp_app.specs.PlainApp.{PlainApp, opening}
use Rattle.csp_app.specs.PlainStep.{PlainStep}
use Rattle.csp_app.specs.PlainStep as step
use Rattle.csp_app.specs.Slots.{slot_at}
use Rattle.csp_app.specs.Steps.{answered, batch, first_rule, gives_up, give_plan, has_passed, is_enough, note_plan, packet_made, packet_plan, plan_of, pushed_one, recv_end, recv_plan, step_plan, turn_of, wait_end}
use Rattle.csp_app.specs.Telling.{at_rest, tells}
use Rattle.csp_app.specs.Turn.{Turn, gives, giving_op, op_of, popped, pops, pushes, pushing_op, rests, takes, told_of, until_told}
use Rattle.csp_app.specs.declared.plan.AppPlan.{AppPlan}
use Rattle.csp_app.specs.declared.plan.AppPlan.TheVariants as plan
use Rattle.csp_buffer.specs.Content.{Content}
use Rattle.csp_consistent.proofs.Public.{each_at, each_if}
use Rattle.csp_consistent.specs.Reading.{is_queue, put_by, puts}
use Rattle.csp_deck.specs.Runs.{IsRun, step_after}
use Rattle.csp_log.specs.Pictures.{Fits}
use Rattle.csp_log.specs.declared.entry.Entry.{Entry}
use Rattle.csp_log.specs.declared.note.Note.{Note}
use Rattle.csp_log.specs.declared.note.Note.TheVariants as note
use Rattle.csp_log.specs.declared.places.QueueId.{QueueId}
use Rattle.csp_log.specs.declared.places.QueueId.TheVariants as queue
use Rattle.csp_log.specs.declared.places.TheConstants.{UNMARKED}
use Rattle.csp_log.specs.declared.shown.AnswerShown.{AnswerShown}
use Rattle.csp_log.specs.declared.shown.AnswerShown.TheVariants as answer
use Rattle.csp_log.specs.declared.shown.ItemShown.{ItemShown}
use Rattle.csp_log.specs.declared.shown.ItemShown.TheVariants as item
use Rattle.csp_prefix.specs.Apps.{IsAppLog, app_steps}
use Rattle.csp_scene.proofs.Public.{AllByRecursion-append}

-- ---- what a step puts

-- the note that a step asks is so, if it asks one
abbrev pub NotesSo : (ItemShown → Type 0) → PlainStep → Type 0
NotesSo P (step.Bind port need) = P (item.Note (note.Bind port need))
NotesSo P (step.Connect slot dest port prio flags from) = P (item.Note (note.Connect slot dest port prio flags from))
NotesSo P (step.Close slot) = P (item.Note (note.Close slot))
NotesSo P _ = ⊤

-- and each packet that it makes, in whatever buffer
abbrev pub PutsSo : (ItemShown → Type 0) → PlainStep → Type 0
PutsSo P x = ((j : ℕ) (b : Content) → P (item.Packet (batch_of x).mark (filled (batch_of x) j b))) × NotesSo P x

-- so is the note of a turn's plan
abbrev PlansSo : (ItemShown → Type 0) → AppPlan → Type 0
PlansSo P (plan.Ask n) = P (item.Note n)
PlansSo P _ = ⊤

-- ---- what an application keeps from turn to turn

-- it has these steps, and what it made is so
abbrev Stands : (ItemShown → Type 0) → List PlainStep → PlainApp → Type 0
Stands P steps s = (s.steps ≡ steps) × IfSome s.made (λ b. P (item.Packet s.mark b))

-- so it is after each turn, whatever comes of it
abbrev Leaves : (ItemShown → Type 0) → List PlainStep → Turn → Type 0
Leaves P steps (rests told) = Stands P steps told.state
Leaves P steps (takes taken none) = ((b : Content) → Stands P steps (taken b).state) × Stands P steps none.state
Leaves P steps (gives c until given back) = Stands P steps until × Stands P steps given.state × ((b : Content) → Stands P steps (back b).state)
Leaves P steps (pushes c until pushed back) = Stands P steps until × Stands P steps pushed.state × ((i : ItemShown) → P i → Stands P steps (back i).state)
Leaves P steps (pops until look) = Stands P steps until × ((n : Option Note) (s : PlainApp) → Stands P steps s → Stands P steps (look n s).state)

-- what an answer brings back is so
abbrev BringsSo : (ItemShown → Type 0) → AnswerShown → Type 0
BringsSo P (answer.Full i) = P i
BringsSo P _ = ⊤

module _ (P : ItemShown → Type 0) where
  -- ---- the plan of a turn

  note_so : (asked : Bool) (n : Note) → P (item.Note n) → PlansSo P (note_plan asked n)
  note_so false n h = h
  note_so true n h = tt

  packet_so : (made : Option Content) → PlansSo P (packet_plan made)
  packet_so None = tt
  packet_so (Some b) = tt

  give_so : (held : List Content) → PlansSo P (give_plan held)
  give_so [] = tt
  give_so (b ∷ bs) = tt

  recv_so : (slot packets : ℕ) (rounds since : Option ℕ) (enough : Bool) → PlansSo P (recv_plan slot packets rounds since enough)
  recv_so slot packets rounds None true = tt
  recv_so slot packets rounds None false = tt
  recv_so slot packets rounds (Some time) enough = tt

  step_so : (s : PlainApp) (found : Option PlainStep) → IfSome found (PutsSo P) → PlansSo P (step_plan s found)
  step_so s None h = tt
  step_so s (Some step.Take) h = tt
  step_so s (Some step.Give) h = give_so s.held
  step_so s (Some (step.Bind port need)) h = note_so s.asked (note.Bind port need) h.1
  step_so s (Some (step.Connect slot dest port prio flags from)) h = note_so s.asked (note.Connect slot dest port prio flags from) h.1
  step_so s (Some (step.Send slot bytes)) h = packet_so s.made
  step_so s (Some (step.Burst slot count len)) h = packet_so s.made
  step_so s (Some (step.Blob slot len size)) h = packet_so s.made
  step_so s (Some (step.Raw header bytes)) h = packet_so s.made
  step_so s (Some (step.Recv slot count rounds)) h = recv_so slot count rounds s.since (is_enough slot count s)
  step_so s (Some (step.Collect slot count rounds)) h = recv_so slot count rounds s.since (is_enough slot count s)
  step_so s (Some (step.Close slot)) h = note_so s.asked (note.Close slot) h.1
  step_so s (Some (step.Wait rounds)) h = tt

  first_so : (taken : Option Content) (refused : Bool) (own : AppPlan) → PlansSo P own → PlansSo P (first_rule taken refused own)
  first_so (Some b) refused own h = tt
  first_so None true own h = tt
  first_so None false own h = h

  found_so : (steps : List PlainStep) (n : ℕ) (found : Option PlainStep) → AllByRecursion (PutsSo P) steps → slice_get steps n ≡ found → IfSome found (PutsSo P)
  found_so steps n None all e = tt
  found_so steps n (Some x) all e = each_at (PutsSo P) steps n x all e

  -- ---- what an answer brings back, and what a turn puts

  made_so : (mark : ℕ) (made : Option Content) → IfSome made (λ b. P (item.Packet mark b)) → IfSome (option_map (λ b. item.Packet mark b) made) P
  made_so mark None h = tt
  made_so mark (Some b) h = h

  pushing_back : (number : ℕ) (c : Option ItemShown) (a : AnswerShown) → IfSome c P → Fits (pushing_op number c) a → BringsSo P a
  pushing_back number None (answer.Full i) h f = absurd f
  pushing_back number (Some j) (answer.Full i) h f = subst P (sym f) h
  pushing_back number _ _ h f = tt

  giving_back : (c : Option Content) (a : AnswerShown) → Fits (giving_op c) a → BringsSo P a
  giving_back None (answer.Full i) f = absurd f
  giving_back (Some b) (answer.Full i) f = absurd f
  giving_back _ _ f = tt

  fits_back : (s : PlainApp) (now : ℕ) (p : AppPlan) (a : AnswerShown) → IfSome s.made (λ b. P (item.Packet s.mark b)) → PlansSo P p → Fits (op_of s.number (turn_of s now p)) a → BringsSo P a
  fits_back s now plan.Return a h k f = giving_back s.taken a f
  fits_back s now plan.Give a h k f = giving_back (slice_get s.held 0) a f
  fits_back s now (plan.Ask n) a h k f = pushing_back s.number (Some (item.Note n)) a k f
  fits_back s now plan.Push a h k f = pushing_back s.number (packet_made s) a (made_so s.mark s.made h) f
  fits_back s now plan.Rest (answer.Full i) h k f = absurd f
  fits_back s now plan.Look (answer.Full i) h k f = absurd f
  fits_back s now plan.Take (answer.Full i) h k f = absurd f
  fits_back s now plan.Skip (answer.Full i) h k f = absurd f
  fits_back s now plan.Await (answer.Full i) h k f = absurd f
  fits_back s now plan.Fill (answer.Full i) h k f = absurd f
  fits_back s now (plan.Use _ _) (answer.Full i) h k f = absurd f
  fits_back s now (plan.Receive _ _ _) (answer.Full i) h k f = absurd f
  fits_back s now (plan.Wait _) (answer.Full i) h k f = absurd f
  fits_back s now _ _ h k f = tt

  pushing_put : (q : QueueId) (number : ℕ) (c : Option ItemShown) (a : AnswerShown) → IfSome c P → AllByRecursion P (put_by q (pushing_op number c) a)
  pushing_put q number None a h = tt
  pushing_put q number (Some i) answer.Pushed h = each_if P (is_queue q (queue.Up number)) i h
  pushing_put q number (Some i) _ h = tt

  giving_put : (q : QueueId) (c : Option Content) (a : AnswerShown) → AllByRecursion P (put_by q (giving_op c) a)
  giving_put q None a = tt
  giving_put q (Some b) a = tt

  turn_puts : (q : QueueId) (s : PlainApp) (now : ℕ) (p : AppPlan) (a : AnswerShown) → IfSome s.made (λ b. P (item.Packet s.mark b)) → PlansSo P p → AllByRecursion P (put_by q (op_of s.number (turn_of s now p)) a)
  turn_puts q s now plan.Return a h k = giving_put q s.taken a
  turn_puts q s now plan.Give a h k = giving_put q (slice_get s.held 0) a
  turn_puts q s now (plan.Ask n) a h k = pushing_put q s.number (Some (item.Note n)) a k
  turn_puts q s now plan.Push a h k = pushing_put q s.number (packet_made s) a (made_so s.mark s.made h)
  turn_puts q s now plan.Rest a h k = tt
  turn_puts q s now plan.Look a h k = tt
  turn_puts q s now plan.Take a h k = tt
  turn_puts q s now plan.Skip a h k = tt
  turn_puts q s now plan.Await a h k = tt
  turn_puts q s now plan.Fill a h k = tt
  turn_puts q s now (plan.Use _ _) a h k = tt
  turn_puts q s now (plan.Receive _ _ _) a h k = tt
  turn_puts q s now (plan.Wait _) a h k = tt

-- ---- turn by turn, where each step puts what is so

module _ (P : ItemShown → Type 0) (steps : List PlainStep) (nothing : (j : ℕ) (b : Content) → P (item.Packet UNMARKED (filled no_packets j b))) (all : AllByRecursion (PutsSo P) steps) where
  stands_pushed : (more : Bool) (s : PlainApp) → Stands P steps s → Stands P steps (pushed_one more s).state
  stands_pushed true s h = h
  stands_pushed false s h = h

  stands_answered : (n : Option Note) (s : PlainApp) → Stands P steps s → Stands P steps (answered n s).state
  stands_answered None s h = h
  stands_answered (Some note.Bound) s h = h
  stands_answered (Some _) s h = h

  stands_received : (slot packets : ℕ) (enough passed down : Bool) (s : PlainApp) → Stands P steps s → Stands P steps (recv_end slot packets enough passed down s).state
  stands_received slot packets true passed down s h = h
  stands_received slot packets false true down s h = h
  stands_received slot packets false false true s h = h
  stands_received slot packets false false false s h = h

  stands_waited : (passed : Bool) (s : PlainApp) → Stands P steps s → Stands P steps (wait_end passed s).state
  stands_waited true s h = h
  stands_waited false s h = h

  -- the present step, and a packet that it makes
  present_so : (s : PlainApp) → Stands P steps s → IfSome (slice_get s.steps s.done) (PutsSo P)
  present_so s h = found_so P s.steps s.done (slice_get s.steps s.done) (subst (λ xs. AllByRecursion (PutsSo P) xs) (sym h.0) all) refl

  filled_so : (found : Option PlainStep) (j : ℕ) (b : Content) → IfSome found (PutsSo P) → P (item.Packet (batch_at found).mark (filled (batch_at found) j b))
  filled_so None j b h = nothing j b
  filled_so (Some x) j b h = h.0 j b

  back_so : (i : ItemShown) → P i → IfSome (packet_in i) (λ b. P (item.Packet (mark_in i) b))
  back_so (item.Packet mark b) g = g
  back_so (item.Frame f) g = tt
  back_so (item.Note n) g = tt

  leaves : (s : PlainApp) (now : ℕ) (p : AppPlan) → Stands P steps s → Leaves P steps (turn_of s now p)
  leaves s now plan.Rest h = h
  leaves s now plan.Return h = (h, h, λ b. h)
  leaves s now plan.Look h = (h, λ n t g. g)
  leaves s now plan.Take h = ((λ b. h), h)
  leaves s now plan.Give h = (h, h, λ b. h)
  leaves s now plan.Skip h = h
  leaves s now (plan.Ask n) h = (h, h, λ i g. h)
  leaves s now plan.Await h = (h, stands_answered)
  leaves s now plan.Fill h = ((λ b. (h.0, filled_so (slice_get s.steps s.done) s.sent b (present_so s h))), h)
  leaves s now plan.Push h = ((h.0, tt), stands_pushed (nat_lt (s.sent + 1) (batch s).count) s h, λ i g. (h.0, back_so i g))
  leaves s now (plan.Use slot packets) h = h
  leaves s now (plan.Receive slot packets rounds) h =
      (h, λ n t g. stands_received slot packets (is_enough slot packets t) (gives_up rounds now t) (slot_at t.slots slot).down t g)
  leaves s now (plan.Wait rounds) h = (h, λ n t g. stands_waited (has_passed rounds now t) t g)

  stands_told : (s : PlainApp) (t : Turn) (a : AnswerShown) → Leaves P steps t → Stands P steps s → BringsSo P a → Stands P steps (told_of s t a).state
  stands_told s (rests told) answer.Nothing l h g = l
  stands_told s (takes taken none) (answer.Taken b) l h g = l.0 b
  stands_told s (takes taken none) answer.NoBuffer l h g = l.1
  stands_told s (gives c until given back) answer.Given l h g = l.1
  stands_told s (gives c until given back) (answer.PoolFull b) l h g = l.2 b
  stands_told s (pushes c until pushed back) answer.Pushed l h g = l.1
  stands_told s (pushes c until pushed back) (answer.Full i) l h g = l.2 i g
  stands_told s (pops until look) (answer.Popped i) l h g = l.1 (note_in i) (popped i s) h
  stands_told s (pops until look) answer.Empty l h g = l.1 None s h
  stands_told s _ _ l h g = h

  stands_until : (s : PlainApp) (t : Turn) → Leaves P steps t → Stands P steps s → Stands P steps (until_told s t)
  stands_until s (rests told) l h = h
  stands_until s (takes taken none) l h = h
  stands_until s (gives c until given back) l h = l.0
  stands_until s (pushes c until pushed back) l h = l.0
  stands_until s (pops until look) l h = l.0

  plan_so : (s : PlainApp) → Stands P steps s → PlansSo P (plan_of s)
  plan_so s h = first_so P s.taken s.refused (step_plan s (slice_get s.steps s.done)) (step_so P s (slice_get s.steps s.done) (present_so s h))

  stands_after : (s : PlainApp) (now : ℕ) (a : AnswerShown) → Stands P steps s → Fits (asks s now) a → Stands P steps (tells (asked s now) now a)
  stands_after s now a h f =
      let rest : PlainApp = at_rest (asked s now) in
      let until : Stands P steps rest = stands_until s (turn_of s now (plan_of s)) (leaves s now (plan_of s) h) h in
      stands_told rest (turn_of rest now (plan_of s)) a (leaves rest now (plan_of s) until) until (fits_back P s now (plan_of s) a h.1 (plan_so s h) f)

  run_puts : (q : QueueId) (es : List Entry) (time : ℕ) (s : PlainApp) → IsRun app_steps time s es → Stands P steps s → AllByRecursion P (puts q es)
  run_puts q [] time s run h = tt
  run_puts q (e ∷ es) time s run h =
      AllByRecursion-append P (put_by q e.op e.answer) (puts q es)
      (subst (λ o. AllByRecursion P (put_by q o e.answer)) (sym run.1.op) (turn_puts P q s e.time (plan_of s) e.answer h.1 (plan_so s h)))
      (run_puts q es e.time (step_after app_steps s e) run.2 (stands_after s e.time e.answer h run.1.fits))

  -- what an application puts, from its opening on, is so where each of its steps puts what is so
  pub app_puts : (q : QueueId) (number : ℕ) (es : List Entry) → IsAppLog number steps es → AllByRecursion P (puts q es)
  app_puts q number es log = run_puts q es 0 (opening number steps) log (refl, tt)
