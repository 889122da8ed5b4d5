-- A round keeps a lane prompt: two posts alone.
use Rattle.std.proofs.Common.{◌≡◌, ℕ, ◌+◌, ◌<◌, ◌≤◌, true, false, Some, List, [], ◌∷◌, ◌++◌, length, option_map, slice_get, sym, ap, ◌∙◌, subst, arith, append-nil, le_trans}
use Rattle.std.proofs.lemmas.Grind.{flat_map-append}
use Rattle.std.proofs.lemmas.Option.{slice_get-map}
use Rattle.std.specs.List.{AllByRecursion}
use Rattle.csp_consistent.proofs.Public.{queue_turned}
use Rattle.csp_consistent.specs.Prompt.{AllAfter, HadNoRoom, IsLanePrompt, MissedNone}
use Rattle.csp_consistent.specs.Reading.{gets, got_by, is_queue, puts}
use Rattle.csp_ends.specs.Causes.{CauseOf, HasNothingAt, HaveCauses}
use Rattle.csp_ends.specs.Ends.{PlainSide, PlainEnds}
use Rattle.csp_ends.specs.Moves.{ends_after, moved_by, side_after}
use Rattle.csp_ends.specs.Traced.{IsSideTraced, moved}
use Rattle.csp_log.specs.declared.entry.Entry.{Entry}
use Rattle.csp_log.specs.declared.places.QueueId.{QueueId}
use Rattle.csp_log.specs.declared.places.QueueId.TheVariants as queue
use Rattle.csp_log.specs.declared.shown.AnswerShown.{AnswerShown}
use Rattle.csp_log.specs.declared.shown.AnswerShown.TheVariants as answer
use Rattle.csp_log.specs.declared.shown.OpShown.{OpShown}
use Rattle.csp_log.specs.declared.shown.OpShown.TheVariants as op
use Rattle.csp_posts.proofs.Public.{pushes}
use Rattle.csp_posts.specs.Between.{HaveMetAt}
use Rattle.csp_standing.proofs.Early.{after_round}
use Rattle.csp_standing.proofs.ListPlaces.{each_at}

-- with one turn more
pub gets_push : (q : QueueId) (es : List Entry) (m : Entry) → gets q (es ++ m ∷ []) ≡ gets q es ++ got_by q m.op m.answer
gets_push q es m = flat_map-append (λ (e : Entry). got_by q e.op e.answer) es (m ∷ []) ∙ ap (λ is. gets q es ++ is) (append-nil (got_by q m.op m.answer))

nothing_there : (earlier : ℕ) (r : QueueId) (e : PlainEnds) (b : ℕ) (y : PlainSide) (before : List Entry)
    → slice_get e.sides b ≡ Some y → y.puts ≡ false → y.end.items ≡ gets y.queue before → earlier ≤ y.end.known → AllByRecursion (HasNothingAt r) e.sides
    → is_queue y.queue r ≡ true → earlier ≤ length (gets y.queue before)
nothing_there earlier r e b y before at way items knows all same =
    le_trans knows (subst (λ is. y.end.known ≤ length is) items (each_at (HasNothingAt r) e.sides b y all at (queue_turned y.queue r same) way))

missed_here : (earlier : ℕ) (o : OpShown) (a : AnswerShown) (e : PlainEnds) (b : ℕ) (y : PlainSide) (before : List Entry)
    → slice_get e.sides b ≡ Some y → y.puts ≡ false → y.end.items ≡ gets y.queue before → earlier ≤ y.end.known → CauseOf e o a → MissedNone y.queue earlier before o a
missed_here earlier (op.Pop queue.Inbox) answer.Empty e b y before at way items knows cause = tt
missed_here earlier (op.Pop r) answer.Empty e b y before at way items knows cause = nothing_there earlier r e b y before at way items knows cause
missed_here earlier _ _ e b y before at way items knows cause = tt

-- the looks of these turns into a lane
looks : (room earlier : ℕ) (more : List Entry) (e : PlainEnds) (b : ℕ) (y : PlainSide) (before : List Entry)
    → slice_get e.sides b ≡ Some y → y.puts ≡ false → y.end.items ≡ gets y.queue before → earlier ≤ y.end.known → HaveCauses room e more
    → AllAfter (λ bs m. MissedNone y.queue earlier bs m.op m.answer) before more
looks room earlier [] e b y before at way items knows causes = tt
looks room earlier (m ∷ more) e b y before at way items knows causes = (
  missed_here earlier m.op m.answer e b y before at way items knows causes.0,
  looks room earlier more (ends_after room m.op m.answer e) b (side_after e.sides m.op m.answer y) (before ++ m ∷ [])
      (slice_get-map (side_after e.sides m.op m.answer) e.sides b ∙ ap (option_map (side_after e.sides m.op m.answer)) at) way
      (ap (λ p. y.end.items ++ moved_by p y.queue m.op m.answer) way ∙ ap (λ is. is ++ got_by y.queue m.op m.answer) items ∙ sym (gets_push y.queue before m))
      knows causes.1,
)

-- what is known of one party's turns of a round at this time: the turns before, which it made by then, and what it had in hand
pub record Rounded (now : ℕ) (es more : List Entry) (room : ℕ) (e : PlainEnds) : Type 0 where
  pub old : AllByRecursion (λ x. x.time < now) es
  pub times : AllByRecursion (λ x. x.time ≡ now) more
  pub causes : HaveCauses room e more

-- the lane after the round
pub lane_goes_on : (now : ℕ) (es more : List Entry) (room : ℕ) (e : PlainEnds) (fs extra : List Entry) (size : ℕ) (f : PlainEnds) (a b : ℕ) (x y : PlainSide)
    → Rounded now es more room e → Rounded now fs extra size f → slice_get e.sides a ≡ Some x → slice_get f.sides b ≡ Some y → x.puts ≡ true → y.puts ≡ false
    → IsSideTraced es x → IsSideTraced fs y → HaveMetAt x y → IsLanePrompt x.end.room x.queue es y.queue fs → IsLanePrompt x.end.room x.queue (es ++ more) y.queue (fs ++ extra)
lane_goes_on now es more room e fs extra size f a b x y left right from to putting getting put got met past =
    let put_all : x.end.items ≡ puts x.queue es = put ∙ ap (λ p. moved p x.queue es) putting in
    let got_all : y.end.items ≡ gets y.queue fs = got ∙ ap (λ p. moved p y.queue fs) getting in
    let knows_puts : length (puts x.queue es) ≤ y.end.known = subst (λ is. length is ≤ y.end.known) put_all met.puts in
    let knows_gets : length (gets y.queue fs) ≤ x.end.known = subst (λ is. length is ≤ x.end.known) got_all met.gets in
    record {
      missed = after_round (λ xs bs m. MissedNone y.queue (length (puts x.queue xs)) bs m.op m.answer) now es more fs extra left.old left.times right.old right.times past.missed
          (looks size (length (puts x.queue es)) extra f b y fs to getting got_all knows_puts right.causes);
      full = after_round (λ xs bs m. HadNoRoom x.queue (x.end.room + length (gets y.queue xs)) bs m.op m.answer) now fs extra es more right.old right.times left.old left.times past.full
          (pushes room (x.end.room + length (gets y.queue fs)) more e a x es from putting put_all (omega (arith, knows_gets)) left.causes);
    }
