-- the fates of a plan
use Rattle.std.proofs.Common.{◌≡◌, ℕ, ◌≤◌, max, Bool, true, false, cond, eqb, ◌&&◌, Option, Some, None, List, [], ◌∷◌, unwrap_or, refl, sym, ap, ◌∙◌, subst, arith}
use Rattle.std.proofs.lemmas.Bool.{eqb-true}
use Rattle.std.proofs.lemmas.Bool.Decides.{nat_tests}
use Rattle.std.specs.List.{All, filter, fold}
use Rattle.std.specs.Map.{lookup, values_of}
use Rattle.std.specs.Ordering.{is_eq, nat_cmp, match_ordering}
use Rattle.std.specs.BTreeMap.{insert_entry, is_at}
use Rattle.std.specs.declared.cmp.Ordering.{Ordering}
use Rattle.std.specs.declared.cmp.Ordering.TheVariants.{Less, Equal, Greater}
use Rattle.std.proofs.lemmas.List.Elements.{All-cons, All-head, All-tail}
use Rattle.csp_link.specs.Fates.{Fates, afflicted, fate_at, fate_of, fates_of, joined, most_copies, unharmed, with_fault}
use Rattle.csp_link.specs.declared.fates.Fate.{Fate}
use Rattle.csp_link.specs.declared.fault.Fault.{Fault}

-- what holds of every fate holds of every one when another is named
pub all_named : (P : Fate → Type 0) (fates : List (ℕ × Fate)) (n : ℕ) (fate : Fate) → All P (values_of fates) → P fate → All P (values_of (insert_entry nat_cmp fates n fate))
all_named P [] n fate all one = All-cons P fate [] one all
all_named P (e ∷ es) n fate all one =
    elim (nat_cmp n e.0) as (λ o. All P (values_of (match_ordering o ((n, fate) ∷ e ∷ es) ((e.0, fate) ∷ es) (e ∷ insert_entry nat_cmp es n fate)))) [
      | Less ↦ All-cons P fate (values_of (e ∷ es)) one all
      | Equal ↦ All-cons P fate (values_of es) one (All-tail P e.1 (values_of es) all)
      | Greater ↦ All-cons P e.1 (values_of (insert_entry nat_cmp es n fate)) (All-head P e.1 (values_of es) all) (all_named P es n fate (All-tail P e.1 (values_of es) all) one)
    ]

-- no frame has more copies than the most
most_from : (fates : Fates) (a frame : ℕ) → let most : ℕ = fold (λ m e. max m e.1.repeats) a fates in (a ≤ most) × ((fate_at fates frame).repeats ≤ most)
most_from [] a frame = (omega arith, omega arith)
most_from (e ∷ es) a frame =
    let most = fold (λ m e. max m e.1.repeats) (max a e.1.repeats) es in
    let rest = most_from es (max a e.1.repeats) frame in (
      omega (arith, rest.0),
      elim (is_eq (nat_cmp frame e.0)) as (λ b. (unwrap_or (cond b (Some e.1) (lookup (is_at (nat_cmp frame)) es)) unharmed).repeats ≤ most) [
        | true ↦ omega (arith, rest.0)
        | false ↦ rest.1
      ],
    )

pub most_at : (fates : Fates) (frame : ℕ) (fate : Fate) → fate ≡ fate_at fates frame → fate.repeats ≤ most_copies fates
most_at fates frame fate is = subst (λ (f : Fate). f.repeats ≤ most_copies fates) (sym is) (most_from fates 0 frame).1

-- ---- what the map has of a frame is what the plan says of it

equal-is : (m n : ℕ) → is_eq (nat_cmp m n) ≡ eqb m n
equal-is m n = grind (arith, nat_tests)

-- a frame is looked up where another was named
looked_up : (fates : Fates) (n frame : ℕ) (fate : Fate) → lookup (is_at (nat_cmp frame)) (insert_entry nat_cmp fates n fate) ≡ cond (eqb frame n) (Some fate) (lookup (is_at (nat_cmp frame)) fates)
looked_up [] n frame fate = ap (λ b. cond b (Some fate) None) (equal-is frame n)
looked_up (e ∷ es) n frame fate = by (nat_cmp n e.0) refl (looked_up es n frame fate)
  where
    rest : Option Fate
    rest = lookup (is_at (nat_cmp frame)) es

    equal : (eqb n e.0) ≡ true → cond (is_eq (nat_cmp frame e.0)) (Some fate) rest ≡ cond (eqb frame n) (Some fate) (cond (is_eq (nat_cmp frame e.0)) (Some e.1) rest)
    equal same = grind (arith, nat_tests, equal-is frame e.0)

    greater : (eqb n e.0) ≡ false → lookup (is_at (nat_cmp frame)) (insert_entry nat_cmp es n fate) ≡ cond (eqb frame n) (Some fate) rest
        → cond (is_eq (nat_cmp frame e.0)) (Some e.1) (lookup (is_at (nat_cmp frame)) (insert_entry nat_cmp es n fate)) ≡ cond (eqb frame n) (Some fate) (cond (is_eq (nat_cmp frame e.0)) (Some e.1) rest)
    greater apart later = grind (arith, nat_tests, equal-is frame e.0, later)

    by : (o : Ordering) → nat_cmp n e.0 ≡ o → lookup (is_at (nat_cmp frame)) (insert_entry nat_cmp es n fate) ≡ cond (eqb frame n) (Some fate) rest
        → lookup (is_at (nat_cmp frame)) (match_ordering o ((n, fate) ∷ e ∷ es) ((e.0, fate) ∷ es) (e ∷ insert_entry nat_cmp es n fate)) ≡ cond (eqb frame n) (Some fate) (cond (is_eq (nat_cmp frame e.0)) (Some e.1) rest)
    by Less is later = ap (λ b. cond b (Some fate) (cond (is_eq (nat_cmp frame e.0)) (Some e.1) rest)) (equal-is frame n)
    by Equal is later = equal (sym (equal-is n e.0) ∙ ap is_eq is)
    by Greater is later = greater (sym (equal-is n e.0) ∙ ap is_eq is) later

-- with a fault more
more_fate : (fates : Fates) (f : Fault) (frame : ℕ) → fate_at (with_fault fates f) frame ≡ cond (eqb f.frame frame) (afflicted f.kind (fate_at fates frame)) (fate_at fates frame)
more_fate fates f frame = ap (λ (o : Option Fate). unwrap_or o unharmed) (looked_up fates f.frame frame (afflicted f.kind (fate_at fates f.frame))) ∙ by (eqb frame f.frame) refl
  where
    flip : (eqb frame f.frame) ≡ (eqb f.frame frame)
    flip = grind (arith, nat_tests)

    by : (b : Bool) → eqb frame f.frame ≡ b → unwrap_or (cond b (Some (afflicted f.kind (fate_at fates f.frame))) (lookup (is_at (nat_cmp frame)) fates)) unharmed ≡ cond (eqb f.frame frame) (afflicted f.kind (fate_at fates frame)) (fate_at fates frame)
    by true is = ap (λ n. afflicted f.kind (fate_at fates n)) (sym (eqb-true frame f.frame is)) ∙ ap (λ b. cond b (afflicted f.kind (fate_at fates frame)) (fate_at fates frame)) (sym is ∙ flip)
    by false is = ap (λ b. cond b (afflicted f.kind (fate_at fates frame)) (fate_at fates frame)) (sym is ∙ flip)

from_fates : (dir frame : ℕ) (fates : Fates) (plan : List Fault) → fate_at (fold (joined dir) fates plan) frame ≡ fold (λ fate f. afflicted f.kind fate) (fate_at fates frame) (filter (λ f. eqb f.dir dir && eqb f.frame frame) plan)
from_fates dir frame fates [] = refl
from_fates dir frame fates (f ∷ plan) = by (eqb f.dir dir) (eqb f.frame frame) refl (from_fates dir frame fates plan) (from_fates dir frame (with_fault fates f) plan)
  where
    rest : List Fault
    rest = filter (λ g. eqb g.dir dir && eqb g.frame frame) plan

    by : (here same : Bool) → eqb f.frame frame ≡ same
        → fate_at (fold (joined dir) fates plan) frame ≡ fold (λ fate f. afflicted f.kind fate) (fate_at fates frame) rest
        → fate_at (fold (joined dir) (with_fault fates f) plan) frame ≡ fold (λ fate f. afflicted f.kind fate) (fate_at (with_fault fates f) frame) rest
        → fate_at (fold (joined dir) (cond here (with_fault fates f) fates) plan) frame ≡ fold (λ fate f. afflicted f.kind fate) (fate_at fates frame) (cond (here && same) (f ∷ rest) rest)
    by false same is old new = old
    by true true is old new = new ∙ ap (λ fate. fold (λ fate f. afflicted f.kind fate) fate rest) (more_fate fates f frame ∙ ap (λ b. cond b (afflicted f.kind (fate_at fates frame)) (fate_at fates frame)) is)
    by true false is old new = new ∙ ap (λ fate. fold (λ fate f. afflicted f.kind fate) fate rest) (more_fate fates f frame ∙ ap (λ b. cond b (afflicted f.kind (fate_at fates frame)) (fate_at fates frame)) is)

pub fates_are : (dir frame : ℕ) (plan : List Fault) → fate_at (fates_of dir plan) frame ≡ fate_of dir frame plan
fates_are dir frame plan = from_fates dir frame [] plan
