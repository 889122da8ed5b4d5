-- the laws of a step: no buffer is lost or made, and the numbers that turns raise are raised by one at most
use Rattle.std.proofs.Common.{◌≡◌, ℕ, zero, suc, ◌+◌, ◌-◌, ◌≤◌, Bool, true, false, Option, Some, None, Result, Ok, Err, List, [], ◌∷◌, ◌++◌, drop, refl, sym, ap, ◌∙◌, arith}
use Rattle.std.specs.List.{slice_get, slice_set}
use Rattle.std.specs.Option.{option_to_list, option_map}
use Rattle.std.specs.Prelude.{◌==◌, if◌then◌else◌, nat_lt}
use Rattle.std.proofs.lemmas.List.Sums.{sum_by-cons}
use Rattle.csp_app.proofs.Counting.{among, among_cons, among_append, holds_times}
use Rattle.csp_app.proofs.Popping.{Fitting}
use Rattle.csp_app.specs.Collecting.{Collectors, answer_of, collector_at, collectors_after, counts}
use Rattle.csp_app.specs.PlainApp.{PlainApp, uses, holds, buffers}
use Rattle.csp_app.specs.Asking.{handed}
use Rattle.csp_app.specs.Making.{packet_in, mark_in, note_in, filled}
use Rattle.csp_app.specs.Room.{CanHear}
use Rattle.csp_app.specs.Slots.{slot_at, slots_after, used_on, noted, slots_count}
use Rattle.csp_app.specs.Steps.{batch, turn_of, pushed_one, answered, recv_end, received, wait_end, waited, is_enough, gives_up, has_passed}
use Rattle.csp_app.specs.Telling.{told_by, at_rest}
use Rattle.csp_app.specs.ToldApp.{next}
use Rattle.csp_app.specs.Turn.{giving_op, pushing_op, op_of, popped}
use Rattle.csp_app.specs.declared.plan.AppPlan.{AppPlan}
use Rattle.csp_app.specs.declared.plan.AppPlan.TheVariants as plan
use Rattle.csp_app.specs.declared.slot.KnownSlot.{KnownSlot}
use Rattle.csp_buffer.specs.Content.{Content}
use Rattle.csp_deck.specs.Step.{times, op_numbers, item_numbers, answer_numbers}
use Rattle.csp_log.specs.declared.shown.ItemShown.{ItemShown}
use Rattle.csp_log.specs.declared.shown.ItemShown.TheVariants as item
use Rattle.csp_log.specs.declared.note.Note.{Note}
use Rattle.csp_log.specs.declared.note.Note.TheVariants as note
use Rattle.csp_log.specs.declared.shown.AnswerShown.{AnswerShown}
use Rattle.csp_log.specs.declared.shown.AnswerShown.TheVariants as answer
use Rattle.csp_log.specs.declared.places.Carries.TheVariants as lane
use Rattle.csp_log.specs.declared.places.QueueId.{QueueId}
use Rattle.csp_log.specs.declared.places.QueueId.TheVariants as queue
use Rattle.csp_log.specs.declared.places.Rule.TheVariants as rule
use Rattle.csp_sfp.specs.declared.collector.SfpAnswer.{SfpAnswer}
use Rattle.csp_sfp.specs.declared.collector.SfpAnswer.TheVariants.{Part, Whole}
use Rattle.csp_sfp.specs.declared.errors.SfpError.{SfpError}

given_numbers : (k : ℕ) (t : Option Content) → times k (op_numbers (giving_op t)) ≡ among k (option_to_list t)
given_numbers k None = refl
given_numbers k (Some b) = refl

pushed_numbers : (k number mark : ℕ) (t : Option Content) → times k (op_numbers (pushing_op number (option_map (λ b. item.Packet mark b) t))) ≡ among k (option_to_list t)
pushed_numbers k number mark None = refl
pushed_numbers k number mark (Some b) = refl

give_numbers : (k : ℕ) (held : List Content) → among k (drop 1 held) + times k (op_numbers (giving_op (slice_get held 0))) ≡ among k held
give_numbers k [] = refl
give_numbers k (b ∷ bs) = omega (arith, among_cons k b bs)

-- what it hands over it holds no more
pub handed_law : (s : PlainApp) (now : ℕ) (p : AppPlan) (k : ℕ) → times k (holds (handed s now p)) + times k (op_numbers (op_of s.number (turn_of s now p))) ≡ times k (holds s)
handed_law s now plan.Return k = omega (arith, holds_times k s, holds_times k (record s { taken = None }), given_numbers k s.taken)
handed_law s now plan.Give k = omega (arith, holds_times k s, holds_times k (record s { held = drop 1 s.held }), give_numbers k s.held)
handed_law s now plan.Push k = omega (arith, holds_times k s, holds_times k (record s { made = None }), pushed_numbers k s.number s.mark s.made)
handed_law s now _ k = omega arith

item_law : (k : ℕ) (i : ItemShown) → times k (item_numbers i) ≡ among k (option_to_list (packet_in i))
item_law k (item.Packet _ _) = refl
item_law k (item.Frame _) = refl
item_law k (item.Note _) = refl

-- a change of one slot that adds at most so much
set_counted : (f : KnownSlot → KnownSlot) (more : ℕ) → ((s : KnownSlot) → (f s).ordinal + (f s).unused ≤ s.ordinal + s.unused + more) → (slots : List KnownSlot) (k : ℕ) → slots_count (slice_set slots k (f (slot_at slots k))) ≤ slots_count slots + more
set_counted f more h [] k = omega arith
set_counted f more h (x ∷ xs) zero = omega (arith, h x, sum_by-cons (λ (s : KnownSlot). s.ordinal + s.unused) x xs, sum_by-cons (λ (s : KnownSlot). s.ordinal + s.unused) (f x) xs)
set_counted f more h (x ∷ xs) (suc k) = omega (arith, set_counted f more h xs k, sum_by-cons (λ (s : KnownSlot). s.ordinal + s.unused) x xs, sum_by-cons (λ (s : KnownSlot). s.ordinal + s.unused) x (slice_set xs k (f (slot_at xs k))))

used_counted : (slot packets : ℕ) (slots : List KnownSlot) → slots_count (used_on slot packets slots) ≤ slots_count slots + 0
used_counted slot packets slots = set_counted (λ s. record s { unused = s.unused - packets }) 0 (λ s. omega arith) slots slot

noted_counted : (n : Note) (slots : List KnownSlot) → slots_count (noted n slots) ≤ slots_count slots + 1
noted_counted (note.Closed k) slots = set_counted (λ s. record s { ordinal = s.ordinal + 1; down = false }) 1 (λ s. omega arith) slots k
noted_counted (note.Down k) slots = omega (arith, set_counted (λ s. record s { down = true }) 0 (λ s. omega arith) slots k)
noted_counted _ slots = omega arith

-- a packet is one thing to be waited for at most
counts_one : (a : Option (Result SfpAnswer SfpError)) → counts a ≤ 1
counts_one None = omega arith
counts_one (Some (Ok Whole)) = omega arith
counts_one (Some (Ok Part)) = omega arith
counts_one (Some (Err why)) = omega arith

after_counted : (i : ItemShown) (collectors : Collectors) (slots : List KnownSlot) → slots_count (slots_after i collectors slots) ≤ slots_count slots + 1
after_counted (item.Packet k b) collectors slots =
    let more : ℕ = counts (answer_of (collector_at collectors k) b.payload) in
    omega (arith, set_counted (λ s. record s { unused = s.unused + more }) more (λ s. omega arith) slots k, counts_one (answer_of (collector_at collectors k) b.payload))
after_counted (item.Note n) collectors slots = noted_counted n slots
after_counted (item.Frame _) collectors slots = omega arith

-- a step that goes on or ends leaves the buffers and the number, and raises none of the numbers that turns raise
record Passes (s t : PlainApp) : Type 0 where
  same : buffers t ≡ buffers s
  number : t.number ≡ s.number
  no_more : slots_count t.slots ≤ slots_count s.slots

stays : (s : PlainApp) → Passes s s
stays s = record { same = refl; number = refl; no_more = omega arith }

ends : (s : PlainApp) → Passes s (next s)
ends s = record { same = refl; number = refl; no_more = omega arith }

pushed_one_passes : (b : Bool) (s : PlainApp) → Passes s (pushed_one b s).state
pushed_one_passes true s = record { same = refl; number = refl; no_more = omega arith }
pushed_one_passes false s = ends s

answered_passes : (n : Option Note) (s : PlainApp) → Passes s (answered n s).state
answered_passes None s = stays s
answered_passes (Some note.Bound) s = ends s
answered_passes (Some (note.Connected _)) s = ends s
answered_passes (Some (note.Closed _)) s = ends s
answered_passes (Some (note.Refused _)) s = ends s
answered_passes (Some _) s = stays s

recv_end_passes : (slot packets : ℕ) (a b d : Bool) (s : PlainApp) → Passes s (recv_end slot packets a b d s).state
recv_end_passes slot packets true _ _ s = record { same = refl; number = refl; no_more = omega (arith, used_counted slot packets s.slots) }
recv_end_passes slot packets false true _ s = ends s
recv_end_passes slot packets false false true s = ends s
recv_end_passes slot packets false false false s = stays s

received_passes : (slot packets : ℕ) (rounds : Option ℕ) (now : ℕ) (s : PlainApp) → Passes s (received slot packets rounds now s).state
received_passes slot packets rounds now s = recv_end_passes slot packets (is_enough slot packets s) (gives_up rounds now s) (slot_at s.slots slot).down s

wait_end_passes : (b : Bool) (s : PlainApp) → Passes s (wait_end b s).state
wait_end_passes true s = ends s
wait_end_passes false s = stays s

waited_passes : (rounds now : ℕ) (s : PlainApp) → Passes s (waited rounds now s).state
waited_passes rounds now s = wait_end_passes (has_passed rounds now s) s

-- an item is popped, and then a step goes on or ends
pop_law : (k : ℕ) (s : PlainApp) (t : Option Content) (slots : List KnownSlot) (collectors : Collectors) → s.taken ≡ None → times k (holds (record s { taken = t; slots = slots; collectors = collectors })) ≡ times k (holds s) + among k (option_to_list t)
pop_law k s t slots collectors e = omega (arith, holds_times k s, holds_times k (record s { taken = t; slots = slots; collectors = collectors }), ap (λ (o : Option Content). among k (option_to_list o)) e)

popped_law : (k : ℕ) (s t : PlainApp) (i : ItemShown) → s.taken ≡ None → Passes (popped i s) t → times k (holds t) ≡ times k (holds s) + times k (item_numbers i)
popped_law k s t i e p = ap (among k) p.same ∙ (pop_law k s (packet_in i) (slots_after i s.collectors s.slots) (collectors_after i s.collectors) e ∙ ap (λ (n : ℕ). times k (holds s) + n) (sym (item_law k i)))

stays_law : (k : ℕ) (s t : PlainApp) → Passes s t → times k (holds t) ≡ times k (holds s) + 0
stays_law k s t p = ap (among k) p.same ∙ omega arith

made_law : (k mark : ℕ) (s : PlainApp) (t : Option Content) → s.made ≡ None → times k (holds (record s { made = t; mark = mark })) ≡ times k (holds s) + among k (option_to_list t)
made_law k mark s t e = omega (arith, holds_times k s, holds_times k (record s { made = t; mark = mark }), ap (λ (o : Option Content). among k (option_to_list o)) e)

-- it holds besides what it was given
pub told_law : (s : PlainApp) (now : ℕ) (p : AppPlan) (a : AnswerShown) → Fitting s p a → CanHear s p
    → (k : ℕ) → times k (holds (told_by (at_rest s) now p a).state) ≡ times k (holds s) + times k (answer_numbers a)
told_law s now plan.Rest answer.Nothing h c k = omega arith
told_law s now plan.Return answer.Given h c k = omega arith
told_law s now plan.Return (answer.PoolFull b) h c k = pop_law k s (Some b) s.slots s.collectors c
told_law s now plan.Look (answer.Popped i) h c k = popped_law k s _ i c (stays _)
told_law s now plan.Look answer.Empty h c k = omega arith
told_law s now plan.Take (answer.Taken b) h c k = omega (arith, holds_times k s, holds_times k (record s { held = s.held ++ b ∷ [] }), among_append k s.held (b ∷ []))
told_law s now plan.Take answer.NoBuffer h c k = omega arith
told_law s now plan.Give answer.Given h c k = omega arith
told_law s now plan.Give (answer.PoolFull b) h c k = omega (arith, holds_times k s, holds_times k (record s { held = b ∷ s.held }), among_cons k b s.held)
told_law s now plan.Skip answer.Nothing h c k = omega arith
told_law s now (plan.Ask n) answer.Pushed h c k = omega arith
told_law s now (plan.Ask n) (answer.Full i) h c k = pop_law k s (packet_in i) s.slots s.collectors c ∙ ap (λ (n : ℕ). times k (holds s) + n) (sym (item_law k i))
told_law s now plan.Await (answer.Popped i) h c k = popped_law k (at_rest s) _ i c.1 (answered_passes (note_in i) (popped i (at_rest s)))
told_law s now plan.Await answer.Empty h c k = omega arith
told_law s now plan.Fill (answer.Taken b) h c k = made_law k (batch s).mark s (Some (filled (batch s) s.sent b)) c.1
told_law s now plan.Fill answer.NoBuffer h c k = omega arith
told_law s now plan.Push answer.Pushed h c k = stays_law k (at_rest s) _ (pushed_one_passes (nat_lt (s.sent + 1) (batch s).count) (at_rest s))
told_law s now plan.Push (answer.Full i) h c k = made_law k (mark_in i) s (packet_in i) c.1 ∙ ap (λ (n : ℕ). times k (holds s) + n) (sym (item_law k i))
told_law s now (plan.Use slot packets) answer.Nothing h c k = omega arith
told_law s now (plan.Receive slot packets rounds) (answer.Popped i) h c k = popped_law k (at_rest s) _ i c.1 (received_passes slot packets rounds now (popped i (at_rest s)))
told_law s now (plan.Receive slot packets rounds) answer.Empty h c k = stays_law k (at_rest s) _ (received_passes slot packets rounds now (at_rest s))
told_law s now (plan.Wait rounds) (answer.Popped i) h c k = popped_law k (at_rest s) _ i c.1 (waited_passes rounds now (popped i (at_rest s)))
told_law s now (plan.Wait rounds) answer.Empty h c k = stays_law k (at_rest s) _ (waited_passes rounds now (at_rest s))
told_law s now _ _ h c k = absurd h

-- what a turn changes at most: the number stays, and the numbers that turns raise are raised by one at most
pub record Raises (s t : PlainApp) : Type 0 where
  pub number : t.number ≡ s.number
  pub count : slots_count t.slots ≤ slots_count s.slots + 1

passed : (s t : PlainApp) → Passes s t → Raises s t
passed s t p = record { number = p.number; count = omega (arith, p.no_more) }

popped_passed : (s t : PlainApp) (i : ItemShown) → Passes (popped i s) t → Raises s t
popped_passed s t i p = record { number = p.number; count = omega (arith, p.no_more, after_counted i s.collectors s.slots) }

pub told_raises : (s : PlainApp) (now : ℕ) (p : AppPlan) (a : AnswerShown) → Raises (at_rest s) (told_by (at_rest s) now p a).state
told_raises s now plan.Look (answer.Popped i) = popped_passed (at_rest s) (popped i (at_rest s)) i (stays _)
told_raises s now plan.Await (answer.Popped i) = popped_passed (at_rest s) _ i (answered_passes (note_in i) (popped i (at_rest s)))
told_raises s now plan.Push answer.Pushed = passed (at_rest s) _ (pushed_one_passes (nat_lt (s.sent + 1) (batch s).count) (at_rest s))
told_raises s now (plan.Use slot packets) answer.Nothing = record { number = refl; count = omega (arith, used_counted slot packets s.slots) }
told_raises s now (plan.Receive slot packets rounds) (answer.Popped i) = popped_passed (at_rest s) _ i (received_passes slot packets rounds now (popped i (at_rest s)))
told_raises s now (plan.Receive slot packets rounds) answer.Empty = passed (at_rest s) _ (received_passes slot packets rounds now (at_rest s))
told_raises s now (plan.Wait rounds) (answer.Popped i) = popped_passed (at_rest s) _ i (waited_passes rounds now (popped i (at_rest s)))
told_raises s now (plan.Wait rounds) answer.Empty = passed (at_rest s) _ (waited_passes rounds now (at_rest s))
told_raises s now plan.Rest answer.Nothing = record { number = refl; count = omega arith }
told_raises s now plan.Return answer.Given = record { number = refl; count = omega arith }
told_raises s now plan.Take answer.NoBuffer = record { number = refl; count = omega arith }
told_raises s now plan.Give answer.Given = record { number = refl; count = omega arith }
told_raises s now plan.Skip answer.Nothing = record { number = refl; count = omega arith }
told_raises s now (plan.Ask _) answer.Pushed = record { number = refl; count = omega arith }
told_raises s now plan.Fill answer.NoBuffer = record { number = refl; count = omega arith }
told_raises s now _ _ = record { number = refl; count = omega arith }

-- what it uses goes by its number
pub same_uses : (s t : PlainApp) → t.number ≡ s.number → (q : QueueId) → uses t q ≡ uses s q
same_uses s t e (queue.Up k) = ap (λ (n : ℕ). if k == n then Some (rule.Lane lane.Up) else None) e
same_uses s t e (queue.Down k) = ap (λ (n : ℕ). if k == n then Some (rule.Lane lane.Down) else None) e
same_uses s t e _ = refl
