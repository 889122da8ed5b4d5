-- What a plan says of a frame, fault by fault.
use Rattle.std.proofs.Common.{◌≡◌, ℕ, Bool, true, false, cond, ◌&&◌, eqb, List, ◌∷◌, refl, ap, ◌∙◌, filter, fold, unwrap_or, nat_cmp, is_eq, Ordering, Less, Equal, Greater, Some, BTreeMap, arith}
use Rattle.std.proofs.lemmas.Bool.{eqb-true}
use Rattle.std.proofs.lemmas.Bool.Decides.{nat_tests}
use Rattle.std.specs.BTreeMap as tree
use Rattle.std.specs.Ordering.{ordering_then}
use Rattle.csp_link.specs.Fates.{afflicted, unharmed}
use Rattle.csp_link.specs.declared.fates.Fate.{Fate}
use Rattle.csp_link.specs.declared.fault.Fault.{Fault}
use Rattle.csp_happenings.specs.Remembering.{fate_in, key_cmp}

-- a fault is of this frame
abbrev is_of : (dir frame : ℕ) → Fault → Bool
is_of dir frame f = eqb f.dir dir && eqb f.frame frame

-- what the faults from here on make of a frame
abbrev pub fate_after : (dir frame : ℕ) → Fate → List Fault → Fate
fate_after dir frame fate plan = fold (λ fate f. afflicted f.kind fate) fate (filter (is_of dir frame) plan)

-- one fault more
pub fate-next : (dir frame : ℕ) (old new all : Fate) (f : Fault) (plan : List Fault) → new ≡ cond (is_of dir frame f) (afflicted f.kind old) old → fate_after dir frame old (f ∷ plan) ≡ all → fate_after dir frame new plan ≡ all
fate-next dir frame old new all f plan is so_far = by (is_of dir frame f) is so_far
  where
    rest : List Fault
    rest = filter (is_of dir frame) plan

    by : (b : Bool) → new ≡ cond b (afflicted f.kind old) old → fold (λ fate f. afflicted f.kind fate) old (cond b (f ∷ rest) rest) ≡ all → fold (λ fate f. afflicted f.kind fate) new rest ≡ all
    by true is so_far = ap (λ fate. fold (λ fate f. afflicted f.kind fate) fate rest) is ∙ so_far
    by false is so_far = ap (λ fate. fold (λ fate f. afflicted f.kind fate) fate rest) is ∙ so_far

-- two keys are the same where their parts are
both_equal : (a b : Ordering) → is_eq (ordering_then a b) ≡ (is_eq a && is_eq b)
both_equal Less b = refl
both_equal Equal b = refl
both_equal Greater b = refl

equal-is : (m n : ℕ) → is_eq (nat_cmp m n) ≡ eqb m n
equal-is m n = grind (arith, nat_tests)

key-is : (a b c d : ℕ) → is_eq (key_cmp (a, b) (c, d)) ≡ (eqb a c && eqb b d)
key-is a b c d = both_equal (nat_cmp a c) (nat_cmp b d) ∙ (λ i. equal-is a c i && equal-is b d i)

-- a map with one fate put in its place
pub fate-put : (old new : BTreeMap (ℕ × ℕ) Fate) (dir frame : ℕ) (f : Fault) (fate : Fate)
    → fate ≡ afflicted f.kind (fate_in old f.dir f.frame)
    → ((q : ℕ × ℕ) → tree.get key_cmp new q ≡ cond (is_eq (key_cmp (f.dir, f.frame) q)) (Some fate) (tree.get key_cmp old q))
    → fate_in new dir frame ≡ cond (is_of dir frame f) (afflicted f.kind (fate_in old dir frame)) (fate_in old dir frame)
fate-put old new dir frame f fate is put = ap (λ o. unwrap_or o unharmed) (put (dir, frame) ∙ ap (λ b. cond b (Some fate) (tree.get key_cmp old (dir, frame))) (key-is f.dir f.frame dir frame)) ∙ by (eqb f.dir dir) (eqb f.frame frame) refl refl
  where
    by : (a b : Bool) → eqb f.dir dir ≡ a → eqb f.frame frame ≡ b → unwrap_or (cond (a && b) (Some fate) (tree.get key_cmp old (dir, frame))) unharmed ≡ cond (a && b) (afflicted f.kind (fate_in old dir frame)) (fate_in old dir frame)
    by true true d n = is ∙ (λ i. afflicted f.kind (fate_in old (eqb-true f.dir dir d i) (eqb-true f.frame frame n i)))
    by true false d n = refl
    by false b d n = refl
