-- what a turn leaves of the ends of a hub as it was
use Rattle.std.proofs.Common.{◌≡◌, ℕ, zero, suc, ◌+◌, ◌≤◌, List, [], ◌∷◌, map, length, Option, Some, None, refl, sym, ap, ◌∙◌, arith, sum}
use Rattle.std.specs.Prelude.{slice_set, sum_by}
use Rattle.std.specs.List.{range_with_len}
use Rattle.std.proofs.lemmas.List.{length-map}
use Rattle.std.proofs.lemmas.List.Sums.{sum_by-cons, sum-map}
use Rattle.csp_hub.specs.Asking.{asked, without}
use Rattle.csp_hub.specs.PlainHub.{PlainEnd, PlainHub, count, end_at, opening, opening_end, served, uses, with_served}
use Rattle.csp_hub.specs.Telling.{fate_of_next, copies_held, held_for_others, kept, sent, taken, tells, after_answer}
use Rattle.csp_hub.specs.declared.doing.Doing.{Doing}
use Rattle.csp_hub.specs.declared.doing.Doing.TheVariants as doing
use Rattle.csp_link.specs.Copies.{held_copies}
use Rattle.csp_link.specs.Holding.{first_due}
use Rattle.csp_link.specs.Turns.{frame_in}
use Rattle.csp_link.specs.declared.fault.Fault.{Fault}
use Rattle.csp_link.specs.declared.held.Held.{Held}
use Rattle.csp_log.specs.declared.frame.Frame.{Frame}
use Rattle.csp_log.specs.declared.places.QueueId.{QueueId}
use Rattle.csp_log.specs.declared.places.QueueId.TheVariants as queue
use Rattle.csp_log.specs.declared.shown.AnswerShown.{AnswerShown}
use Rattle.csp_log.specs.declared.shown.AnswerShown.TheVariants as answer

module _ {X : Type 0} (f : PlainEnd → X) where
  -- an end that is put in the place of one that is like it
  pub like_with : (k : ℕ) (es : List PlainEnd) (e : PlainEnd) → f e ≡ f (end_at k es) → map f (slice_set es k e) ≡ map f es
  like_with k [] e same = refl
  like_with zero (x ∷ xs) e same = ap (λ y. y ∷ map f xs) same
  like_with (suc k) (x ∷ xs) e same = ap (λ ys. f x ∷ ys) (like_with k xs e same)

  like_heard : (copies : List Held) → ((e : PlainEnd) → f (copies_held copies e) ≡ f e) → (es : List PlainEnd) → map f (map (copies_held copies) es) ≡ map f es
  like_heard copies same [] = refl
  like_heard copies same (x ∷ xs) = λ i. same x i ∷ like_heard copies same xs i

  -- frames that are held besides
  pub like_others : (k : ℕ) (copies : List Held) → ((e : PlainEnd) → f (copies_held copies e) ≡ f e) → (es : List PlainEnd) → map f (held_for_others k copies es) ≡ map f es
  like_others k copies same [] = refl
  like_others zero copies same (x ∷ xs) = ap (λ ys. f x ∷ ys) (like_heard copies same xs)
  like_others (suc k) copies same (x ∷ xs) = λ i. same x i ∷ like_others k copies same xs i

-- what a frame that goes out leaves of an end
pub record IsLike (d e : PlainEnd) : Type 0 where
  pub fates : d.fates ≡ e.fates
  pub popped : d.popped ≡ e.popped

pub without_like : (found : Option (ℕ × Held)) (e : PlainEnd) → IsLike (without found e) e
without_like (Some p) e = record { fates = refl; popped = refl }
without_like None e = record { fates = refl; popped = refl }

-- and one that comes back
pub kept_like : (place due : ℕ) (found : Option Frame) (e : PlainEnd) → IsLike (kept place due found e) e
kept_like place due (Some frame) e = record { fates = refl; popped = refl }
kept_like place due None e = record { fates = refl; popped = refl }

-- the fates of the ends stay
pub fates_asked : (h : PlainHub) (now : ℕ) → map (λ (e : PlainEnd). e.fates) (asked h now).ends ≡ map (λ (e : PlainEnd). e.fates) h.ends
fates_asked h now = like_with (λ e. e.fates) h.serving h.ends (without (first_due now (served h).held) (served h)) (without_like (first_due now (served h).held) (served h)).fates

fates_taken : (h : PlainHub) (now : ℕ) (found : Option Frame) → map (λ (e : PlainEnd). e.fates) (taken now found h).ends ≡ map (λ (e : PlainEnd). e.fates) h.ends
fates_taken h now (Some frame) =
    like_others (λ e. e.fates) h.serving (held_copies (fate_of_next (served h)) now frame) (λ e. refl) (slice_set h.ends h.serving (sent (served h)))
    ∙ like_with (λ e. e.fates) h.serving h.ends (sent (served h)) refl
fates_taken h now None = refl

fates_told : (h : PlainHub) (now : ℕ) (t : Doing) (a : AnswerShown) → map (λ (e : PlainEnd). e.fates) (after_answer now t a h).ends ≡ map (λ (e : PlainEnd). e.fates) h.ends
fates_told h now (doing.Push place due) answer.Pushed = refl
fates_told h now (doing.Push place due) (answer.Full i) = like_with (λ e. e.fates) h.serving h.ends (kept place due (frame_in i) (served h)) (kept_like place due (frame_in i) (served h)).fates
fates_told h now doing.Pop (answer.Popped i) = fates_taken h now (frame_in i)
fates_told h now doing.Pop answer.Empty = refl
fates_told h now doing.Wait answer.Nothing = refl
fates_told h now _ _ = refl

pub fates_tells : (h : PlainHub) (now : ℕ) (a : AnswerShown) → map (λ (e : PlainEnd). e.fates) (tells h now a).ends ≡ map (λ (e : PlainEnd). e.fates) h.ends
fates_tells h now a = fates_told h now h.doing a

-- so there are as many ends
pub as_many : (g h : PlainHub) → map (λ (e : PlainEnd). e.fates) g.ends ≡ map (λ (e : PlainEnd). e.fates) h.ends → length g.ends ≡ length h.ends
as_many g h same = sym (length-map g.ends (λ (e : PlainEnd). e.fates)) ∙ ap length same ∙ length-map h.ends (λ (e : PlainEnd). e.fates)

uses_as_many : (g h : PlainHub) (q : QueueId) → length g.ends ≡ length h.ends → uses g q ≡ uses h q
uses_as_many g h (queue.Tx k) e = cc
uses_as_many g h (queue.Rx k) e = cc
uses_as_many g h queue.Inbox e = refl
uses_as_many g h (queue.Up _) e = refl
uses_as_many g h (queue.Down _) e = refl
uses_as_many g h (queue.Out _) e = refl

-- and their lanes are the same
pub uses_asked : (h : PlainHub) (now : ℕ) (q : QueueId) → uses (asked h now) q ≡ uses h q
uses_asked h now q = uses_as_many (asked h now) h q (as_many (asked h now) h (fates_asked h now))

pub uses_told : (h : PlainHub) (now : ℕ) (a : AnswerShown) (q : QueueId) → uses (tells h now a) q ≡ uses h q
uses_told h now a q = uses_as_many (tells h now a) h q (as_many (tells h now a) h (fates_tells h now a))

-- ---- how many frames were popped

count_is : (es fs : List PlainEnd) → map (λ (e : PlainEnd). e.popped) es ≡ map (λ (e : PlainEnd). e.popped) fs → sum_by (λ (e : PlainEnd). e.popped) es ≡ sum_by (λ (e : PlainEnd). e.popped) fs
count_is es fs same = sym (sum-map (λ (e : PlainEnd). e.popped) es) ∙ ap sum same ∙ sum-map (λ (e : PlainEnd). e.popped) fs

pub count_asked : (h : PlainHub) (now : ℕ) → count (asked h now) ≡ count h
count_asked h now =
    count_is (asked h now).ends h.ends (like_with (λ e. e.popped) h.serving h.ends (without (first_due now (served h).held) (served h)) (without_like (first_due now (served h).held) (served h)).popped)

count_sent : (k : ℕ) (es : List PlainEnd) → sum_by (λ (e : PlainEnd). e.popped) (slice_set es k (sent (end_at k es))) ≤ sum_by (λ (e : PlainEnd). e.popped) es + 1
count_sent k [] = omega arith
count_sent zero (x ∷ xs) = omega (arith, sum_by-cons (λ (e : PlainEnd). e.popped) (sent x) xs, sum_by-cons (λ (e : PlainEnd). e.popped) x xs)
count_sent (suc k) (x ∷ xs) = omega (arith, sum_by-cons (λ (e : PlainEnd). e.popped) x (slice_set xs k (sent (end_at k xs))), sum_by-cons (λ (e : PlainEnd). e.popped) x xs, count_sent k xs)

count_taken : (h : PlainHub) (now : ℕ) (found : Option Frame) → count (taken now found h) ≤ count h + 1
count_taken h now (Some frame) =
    let copies : List Held = held_copies (fate_of_next (served h)) now frame in
    let after : List PlainEnd = slice_set h.ends h.serving (sent (served h)) in
    let same = count_is (held_for_others h.serving copies after) after (like_others (λ e. e.popped) h.serving copies (λ e. refl) after) in
    let one = count_sent h.serving h.ends in omega (arith, same, one)
count_taken h now None = omega arith

count_told : (h : PlainHub) (now : ℕ) (t : Doing) (a : AnswerShown) → count (after_answer now t a h) ≤ count h + 1
count_told h now (doing.Push place due) answer.Pushed = omega arith
count_told h now (doing.Push place due) (answer.Full i) =
    let same = count_is (with_served h (kept place due (frame_in i) (served h))).ends h.ends
    (like_with (λ e. e.popped) h.serving h.ends (kept place due (frame_in i) (served h)) (kept_like place due (frame_in i) (served h)).popped) in omega (arith, same)
count_told h now doing.Pop (answer.Popped i) = count_taken h now (frame_in i)
count_told h now doing.Pop answer.Empty = omega arith
count_told h now doing.Wait answer.Nothing = omega arith
count_told h now _ _ = omega arith

pub count_tells : (h : PlainHub) (now : ℕ) (a : AnswerShown) → count (tells h now a) ≤ count h + 1
count_tells h now a = count_told h now h.doing a

-- none was as it opens
none_popped : (plan : List Fault) (numbers : List ℕ) → sum_by (λ (e : PlainEnd). e.popped) (map (opening_end plan) numbers) ≡ 0
none_popped plan [] = refl
none_popped plan (k ∷ ks) = omega (arith, sum_by-cons (λ (e : PlainEnd). e.popped) (opening_end plan k) (map (opening_end plan) ks), none_popped plan ks)

pub count_opening : (ends : ℕ) (plan : List Fault) → count (opening ends plan) ≡ 0
count_opening ends plan = none_popped plan (range_with_len 0 ends)
