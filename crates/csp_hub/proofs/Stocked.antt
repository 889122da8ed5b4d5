-- a hub needs as many boxes after a turn as before, and no turn takes more
use Rattle.std.proofs.Common.{◌≡◌, ℕ, zero, suc, ◌+◌, ◌-◌, ◌*◌, ◌<◌, ◌≤◌, Bool, true, false, List, [], ◌∷◌, map, length, get_or, max, sym, ap, ◌∙◌, subst, arith}
use Rattle.std.specs.Prelude.{nat_lt, if◌then◌else◌}
use Rattle.std.specs.List.{fold}
use Rattle.std.proofs.Math.Nat.{mul-le-mul_left}
use Rattle.std.proofs.lemmas.List.Folds.{fold-map}
use Rattle.csp_hub.specs.Asking.{asked}
use Rattle.csp_hub.specs.PlainHub.{PlainEnd, PlainHub}
use Rattle.csp_hub.specs.Stocking.{copy_count, less, most_of, needs}
use Rattle.csp_hub.specs.Telling.{tells}
use Rattle.csp_link.specs.Fates.{Fates, most_copies}
use Rattle.csp_link.specs.declared.fates.Fate.{Fate}
use Rattle.csp_log.specs.PlainSpares.{PlainSpares, with_box}
use Rattle.csp_log.specs.declared.shown.AnswerShown.{AnswerShown}
use Rattle.csp_hub.proofs.Ends.{as_many, fates_asked, fates_tells}

most_is : (es fs : List PlainEnd) → map (λ (e : PlainEnd). e.fates) es ≡ map (λ (e : PlainEnd). e.fates) fs → most_of es ≡ most_of fs
most_is es fs same =
    sym (fold-map (λ most (fates : Fates). max most (most_copies fates)) (λ (e : PlainEnd). e.fates) 0 es)
    ∙ ap (λ (all : List Fates). fold (λ most (fates : Fates). max most (most_copies fates)) 0 all) same
    ∙ fold-map (λ most (fates : Fates). max most (most_copies fates)) (λ (e : PlainEnd). e.fates) 0 fs

needs_is : (g h : PlainHub) → map (λ (e : PlainEnd). e.fates) g.ends ≡ map (λ (e : PlainEnd). e.fates) h.ends → needs g ≡ needs h
needs_is g h same = λ i. (as_many g h same i - 1) * (most_is g.ends h.ends same i + 1)

pub needs_asked : (h : PlainHub) (now : ℕ) → needs (asked h now) ≡ needs h
needs_asked h now = needs_is (asked h now) h (fates_asked h now)

pub needs_told : (h : PlainHub) (now : ℕ) (a : AnswerShown) → needs (tells h now a) ≡ needs h
needs_told h now a = needs_is (tells h now a) h (fates_tells h now a)

-- ---- what a frame takes

most_above : (es : List PlainEnd) (a : ℕ) → a ≤ fold (λ most (e : PlainEnd). max most (most_copies e.fates)) a es
most_above [] a = omega arith
most_above (e ∷ es) a = let more = most_above es (max a (most_copies e.fates)) in omega (arith, more)

most_from : (k a : ℕ) (es : List PlainEnd) (d : PlainEnd) → k < length es → most_copies (get_or es k d).fates ≤ fold (λ most (e : PlainEnd). max most (most_copies e.fates)) a es
most_from k a [] d within = absurd (omega arith)
most_from zero a (e ∷ es) d within = let more = most_above es (max a (most_copies e.fates)) in omega (arith, more)
most_from (suc k) a (e ∷ es) d within = most_from k (max a (most_copies e.fates)) es d (omega arith)

count_few : (lost : Bool) (n : ℕ) → (if lost then 0 else n) ≤ n
count_few true n = omega arith
count_few false n = omega arith

-- the copies of a frame from an end are no more than the hub may need
pub few_copies : (h : PlainHub) (k : ℕ) (e : PlainEnd) (fate : Fate) → k < length h.ends → e ≡ get_or h.ends k e → fate.repeats ≤ most_copies e.fates → (length h.ends - 1) * copy_count fate ≤ needs h
few_copies h k e fate within is most =
    let here : most_copies e.fates ≤ most_of h.ends = subst (λ (x : PlainEnd). most_copies x.fates ≤ most_of h.ends) (sym is) (most_from k 0 h.ends e within) in
    let few = count_few fate.lost (fate.repeats + 1) in
    let all : copy_count fate ≤ most_of h.ends + 1 = omega (arith, few, here, most) in
    mul-le-mul_left (length h.ends - 1) all

box_back : (s : PlainSpares) → s.boxes ≤ (with_box s).boxes
box_back s = by (nat_lt s.boxes s.room)
  where
    by : (b : Bool) → s.boxes ≤ (if b then s.boxes + 1 else s.boxes)
    by true = omega arith
    by false = omega arith

-- so no more are missing afterwards
pub least_left : (taken most : ℕ) (s t : PlainSpares) → taken ≤ most → t ≡ with_box (less taken s) → s.boxes ≤ t.boxes + most
least_left taken most s t few is = let more = box_back (less taken s) in let same = ap (λ (x : PlainSpares). x.boxes) is in omega (arith, few, more, same)
