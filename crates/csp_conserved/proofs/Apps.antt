-- An application keeps the numbers of its buffers in each turn.
use Rattle.std.proofs.Common.{◌≡◌, ℕ, ◌+◌, Bool, true, false, Option, None, Some, List, [], ◌∷◌, ◌++◌, nat_lt, option_map, slice_get, refl, ap, arith}
use Rattle.std.specs.Prelude.{⊤}
use Rattle.std.specs.Option.{option_to_list}
use Rattle.csp_app.proofs.Public.{among, among_append, among_cons, holds_times, handed_law}
use Rattle.csp_app.specs.Asking.{asked, asks, handed}
use Rattle.csp_app.specs.Making.{filled, mark_in, note_in, packet_in}
use Rattle.csp_app.specs.PlainApp.{PlainApp, buffers, holds}
use Rattle.csp_app.specs.PlainStep.{PlainStep}
use Rattle.csp_app.specs.PlainStep as step
use Rattle.csp_app.specs.Slots.{slot_at}
use Rattle.csp_app.specs.Steps.{answered, batch, first_rule, give_plan, gives_up, has_passed, is_enough, note_plan, packet_plan, plan_of, pushed_one, received, recv_end, recv_plan, step_plan, turn_of, wait_end, waited}
use Rattle.csp_app.specs.Telling.{at_rest, tells, told_by}
use Rattle.csp_app.specs.Turn.{giving_op, op_of, popped, pushing_op}
use Rattle.csp_app.specs.declared.plan.AppPlan.{AppPlan}
use Rattle.csp_app.specs.declared.plan.AppPlan.TheVariants as plan
use Rattle.csp_buffer.specs.Content.{Content}
use Rattle.csp_deck.specs.Step.{answer_numbers, item_numbers, op_numbers, times}
use Rattle.csp_log.specs.Pictures.{Fits}
use Rattle.csp_log.specs.declared.note.Note.{Note}
use Rattle.csp_log.specs.declared.note.Note.TheVariants as note
use Rattle.csp_log.specs.declared.shown.AnswerShown.{AnswerShown}
use Rattle.csp_log.specs.declared.shown.AnswerShown.TheVariants as answer
use Rattle.csp_log.specs.declared.shown.ItemShown.{ItemShown}
use Rattle.csp_log.specs.declared.shown.ItemShown.TheVariants as item

-- ---- what leaves the buffers as they are

pushed_one_same : (more : Bool) (s : PlainApp) → buffers (pushed_one more s).state ≡ buffers s
pushed_one_same true s = refl
pushed_one_same false s = refl

answered_same : (n : Option Note) (s : PlainApp) → buffers (answered n s).state ≡ buffers s
answered_same None s = refl
answered_same (Some note.Bound) s = refl
answered_same (Some _) s = refl

recv_end_same : (slot packets : ℕ) (enough passed down : Bool) (s : PlainApp) → buffers (recv_end slot packets enough passed down s).state ≡ buffers s
recv_end_same slot packets true passed down s = refl
recv_end_same slot packets false true down s = refl
recv_end_same slot packets false false true s = refl
recv_end_same slot packets false false false s = refl

received_same : (slot packets : ℕ) (rounds : Option ℕ) (now : ℕ) (s : PlainApp) → buffers (received slot packets rounds now s).state ≡ buffers s
received_same slot packets rounds now s = recv_end_same slot packets (is_enough slot packets s) (gives_up rounds now s) (slot_at s.slots slot).down s

waited_same : (rounds now : ℕ) (s : PlainApp) → buffers (waited rounds now s).state ≡ buffers s
waited_same rounds now s = by (has_passed rounds now s)
  where
    by : (passed : Bool) → buffers (wait_end passed s).state ≡ buffers s
    by true = refl
    by false = refl

-- ---- what came is held

-- the application after an answer holds what it held and what came
abbrev Tells : PlainApp → PlainApp → AnswerShown → Type 0
Tells s t a = (k : ℕ) → times k (holds t) ≡ times k (holds s) + times k (answer_numbers a)

none_among : (k : ℕ) (o : Option Content) → o ≡ None → among k (option_to_list o) ≡ 0
none_among k o e = ap (λ x. among k (option_to_list x)) e

item_among : (k : ℕ) (i : ItemShown) → times k (item_numbers i) ≡ among k (option_to_list (packet_in i))
item_among k (item.Packet _ _) = refl
item_among k (item.Frame _) = refl
item_among k (item.Note _) = refl

stays_told : (s t : PlainApp) (a : AnswerShown) → answer_numbers a ≡ [] → buffers t ≡ buffers s → Tells s t a
stays_told s t a none same k = omega (arith, ap (among k) same, ap (times k) none)

popped_told : (s t : PlainApp) (i : ItemShown) → s.taken ≡ None → buffers t ≡ buffers (popped i s) → Tells s t (answer.Popped i)
popped_told s t i free same k = omega (arith, ap (among k) same, holds_times k s, holds_times k (popped i s), none_among k s.taken free, item_among k i)

-- ---- by the plan of the turn

told_return : (o : Option Content) (s : PlainApp) (now : ℕ) (a : AnswerShown) → s.taken ≡ None → Fits (giving_op o) a → Tells s (told_by (at_rest s) now plan.Return a).state a
told_return None s now answer.Nothing free fits k = omega arith
told_return None s now a free fits k = absurd fits
told_return (Some b) s now answer.Given free fits k = omega arith
told_return (Some b) s now (answer.PoolFull c) free fits k = omega (arith, holds_times k s, holds_times k (record s { taken = Some c }), none_among k s.taken free)
told_return (Some b) s now a free fits k = absurd fits

told_give : (o : Option Content) (s : PlainApp) (now : ℕ) (a : AnswerShown) → Fits (giving_op o) a → Tells s (told_by (at_rest s) now plan.Give a).state a
told_give None s now answer.Nothing fits k = omega arith
told_give None s now a fits k = absurd fits
told_give (Some b) s now answer.Given fits k = omega arith
told_give (Some b) s now (answer.PoolFull c) fits k = omega (arith, holds_times k s, holds_times k (record s { held = c ∷ s.held }), among_cons k c s.held)
told_give (Some b) s now a fits k = absurd fits

told_push : (number mark : ℕ) (o : Option Content) (s : PlainApp) (now : ℕ) (a : AnswerShown) → s.made ≡ None → Fits (pushing_op number (option_map (λ b. item.Packet mark b) o)) a
    → Tells s (told_by (at_rest s) now plan.Push a).state a
told_push number mark None s now answer.Nothing free fits = λ k. omega arith
told_push number mark None s now a free fits = λ k. absurd fits
told_push number mark (Some b) s now answer.Pushed free fits = stays_told s (told_by (at_rest s) now plan.Push answer.Pushed).state answer.Pushed refl (pushed_one_same (nat_lt (s.sent + 1) (batch s).count) (at_rest s))
told_push number mark (Some b) s now (answer.Full i) free fits = λ k.
    omega (arith, holds_times k s, holds_times k (record s { made = packet_in i; mark = mark_in i }), none_among k s.made free, item_among k i)
told_push number mark (Some b) s now a free fits = λ k. absurd fits

told_ask : (number : ℕ) (n : Note) (s : PlainApp) (now : ℕ) (a : AnswerShown) → s.taken ≡ None → Fits (pushing_op number (Some (item.Note n))) a → Tells s (told_by (at_rest s) now (plan.Ask n) a).state a
told_ask number n s now answer.Pushed free fits k = omega arith
told_ask number n s now (answer.Full i) free fits k = omega (arith, holds_times k s, holds_times k (record s { taken = packet_in i }), none_among k s.taken free, item_among k i)
told_ask number n s now a free fits k = absurd fits

-- the places that the answers of a plan fill are empty
abbrev IsFree : PlainApp → AppPlan → Type 0
IsFree s plan.Look = s.taken ≡ None
IsFree s (plan.Ask _) = s.taken ≡ None
IsFree s plan.Await = s.taken ≡ None
IsFree s plan.Fill = s.made ≡ None
IsFree s (plan.Receive _ _ _) = s.taken ≡ None
IsFree s (plan.Wait _) = s.taken ≡ None
IsFree s _ = ⊤

told_so : (s : PlainApp) (now : ℕ) (p : AppPlan) (a : AnswerShown) → IsFree s p → Fits (op_of s.number (turn_of s now p)) a → Tells (handed s now p) (told_by (at_rest (handed s now p)) now p a).state a
told_so s now plan.Return a free fits = told_return s.taken (handed s now plan.Return) now a refl fits
told_so s now plan.Give a free fits = told_give (slice_get s.held 0) (handed s now plan.Give) now a fits
told_so s now plan.Push a free fits = told_push s.number s.mark s.made (handed s now plan.Push) now a refl fits
told_so s now (plan.Ask n) a free fits = told_ask s.number n s now a free fits
told_so s now plan.Rest answer.Nothing free fits = λ k. omega arith
told_so s now plan.Look (answer.Popped i) free fits = popped_told s (told_by (at_rest (handed s now plan.Look)) now plan.Look (answer.Popped i)).state i free refl
told_so s now plan.Look answer.Empty free fits = λ k. omega arith
told_so s now plan.Take (answer.Taken b) free fits = λ k. omega (arith, holds_times k s, holds_times k (record s { held = s.held ++ b ∷ [] }), among_append k s.held (b ∷ []))
told_so s now plan.Take answer.NoBuffer free fits = λ k. omega arith
told_so s now plan.Skip answer.Nothing free fits = λ k. omega arith
told_so s now plan.Await (answer.Popped i) free fits = popped_told s (told_by (at_rest (handed s now plan.Await)) now plan.Await (answer.Popped i)).state i free (answered_same (note_in i) (popped i (at_rest (handed s now plan.Await))))
told_so s now plan.Await answer.Empty free fits = λ k. omega arith
told_so s now plan.Fill (answer.Taken b) free fits = λ k. omega (arith, holds_times k s, holds_times k (record s { made = Some (filled (batch s) s.sent b); mark = (batch s).mark }), none_among k s.made free)
told_so s now plan.Fill answer.NoBuffer free fits = λ k. omega arith
told_so s now (plan.Use slot packets) answer.Nothing free fits = λ k. omega arith
told_so s now (plan.Receive slot packets rounds) (answer.Popped i) free fits =
    let t : PlainApp = at_rest (handed s now (plan.Receive slot packets rounds)) in
    popped_told (handed s now (plan.Receive slot packets rounds)) (told_by t now (plan.Receive slot packets rounds) (answer.Popped i)).state i free (received_same slot packets rounds now (popped i t))
told_so s now (plan.Receive slot packets rounds) answer.Empty free fits =
    let t : PlainApp = at_rest (handed s now (plan.Receive slot packets rounds)) in
    stays_told (handed s now (plan.Receive slot packets rounds)) (told_by t now (plan.Receive slot packets rounds) answer.Empty).state answer.Empty refl (received_same slot packets rounds now t)
told_so s now (plan.Wait rounds) (answer.Popped i) free fits =
    let t : PlainApp = at_rest (handed s now (plan.Wait rounds)) in
    popped_told (handed s now (plan.Wait rounds)) (told_by t now (plan.Wait rounds) (answer.Popped i)).state i free (waited_same rounds now (popped i t))
told_so s now (plan.Wait rounds) answer.Empty free fits =
    let t : PlainApp = at_rest (handed s now (plan.Wait rounds)) in
    stays_told (handed s now (plan.Wait rounds)) (told_by t now (plan.Wait rounds) answer.Empty).state answer.Empty refl (waited_same rounds now t)
told_so s now _ a free fits = absurd fits

-- ---- what the plan finds

note_free : (s : PlainApp) (asked : Bool) (n : Note) → s.taken ≡ None → IsFree s (note_plan asked n)
note_free s false n free = free
note_free s true n free = free

packet_free : (s : PlainApp) (made : Option Content) → s.made ≡ made → IsFree s (packet_plan made)
packet_free s None e = e
packet_free s (Some b) e = tt

recv_free : (s : PlainApp) (slot packets : ℕ) (rounds since : Option ℕ) (enough : Bool) → s.taken ≡ None → IsFree s (recv_plan slot packets rounds since enough)
recv_free s slot packets rounds None true free = tt
recv_free s slot packets rounds None false free = free
recv_free s slot packets rounds (Some _) enough free = free

give_free : (s : PlainApp) (held : List Content) → IsFree s (give_plan held)
give_free s [] = tt
give_free s (b ∷ bs) = tt

step_free : (s : PlainApp) (found : Option PlainStep) → s.taken ≡ None → IsFree s (step_plan s found)
step_free s None free = tt
step_free s (Some step.Take) free = tt
step_free s (Some step.Give) free = give_free s s.held
step_free s (Some (step.Bind port need)) free = note_free s s.asked (note.Bind port need) free
step_free s (Some (step.Connect slot dest port prio flags from)) free = note_free s s.asked (note.Connect slot dest port prio flags from) free
step_free s (Some (step.Send _ _)) free = packet_free s s.made refl
step_free s (Some (step.Burst _ _ _)) free = packet_free s s.made refl
step_free s (Some (step.Blob _ _ _)) free = packet_free s s.made refl
step_free s (Some (step.Raw _ _)) free = packet_free s s.made refl
step_free s (Some (step.Recv slot packets rounds)) free = recv_free s slot packets rounds s.since (is_enough slot packets s) free
step_free s (Some (step.Collect slot blobs rounds)) free = recv_free s slot blobs rounds s.since (is_enough slot blobs s) free
step_free s (Some (step.Close slot)) free = note_free s s.asked (note.Close slot) free
step_free s (Some (step.Wait rounds)) free = free

first_free : (s : PlainApp) (taken : Option Content) (refused : Bool) (own : AppPlan) → s.taken ≡ taken → (s.taken ≡ None → IsFree s own) → IsFree s (first_rule taken refused own)
first_free s (Some b) refused own e h = tt
first_free s None true own e h = e
first_free s None false own e h = h e

-- ---- a whole turn

pub app_keeps : (s : PlainApp) (now : ℕ) (a : AnswerShown) → Fits (asks s now) a → (k : ℕ) → times k (holds (tells (asked s now) now a)) + times k (op_numbers (asks s now)) ≡ times k (holds s) + times k (answer_numbers a)
app_keeps s now a fits k =
    let p : AppPlan = plan_of s in
    let free = first_free s s.taken s.refused (step_plan s (slice_get s.steps s.done)) refl (step_free s (slice_get s.steps s.done)) in
    omega (arith, told_so s now p a free fits k, handed_law s now p k)
