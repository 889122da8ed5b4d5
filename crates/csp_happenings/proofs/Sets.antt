-- The set of the numbers that an interface transmitted.
use Rattle.std.proofs.Common.{◌≡◌, ℕ, Bool, true, false, cond, ◌&&◌, ◌||◌, eqb, None, Some, List, [], ◌∷◌, ◌++◌, refl, sym, ap, ◌∙◌, Ordering, Less, Equal, Greater, nat_cmp, is_eq, BTreeSet, arith}
use Rattle.std.proofs.lemmas.Bool.Decides.{nat_tests}
use Rattle.std.proofs.lemmas.List.Folds.{list_any-append}
use Rattle.std.specs.BTreeSet.{contains}
use Rattle.std.specs.Option.{option_map_or}
use Rattle.std.specs.Ordering.{ordering_then}
use Rattle.csp_log.specs.declared.entry.Entry.{Entry}
use Rattle.csp_happenings.specs.Happenings.{is_same, number_in, was_sent}
use Rattle.csp_happenings.specs.Numbers.{Adds, has, number_cmp}

both_equal : (a b : Ordering) → is_eq (ordering_then a b) ≡ (is_eq a && is_eq b)
both_equal Less b = refl
both_equal Equal b = refl
both_equal Greater b = refl

equal-is : (m n : ℕ) → is_eq (nat_cmp m n) ≡ eqb n m
equal-is m n = grind (arith, nat_tests)

-- two numbers are the same where their parts are
key-is : (key n : ℕ × ℕ) → is_eq (number_cmp key n) ≡ is_same n key
key-is key n = both_equal (nat_cmp key.0 n.0) (nat_cmp key.1 n.1) ∙ (λ i. equal-is key.0 n.0 i && equal-is key.1 n.1 i)

or-none : (b : Bool) → b ≡ (b || false)
or-none true = refl
or-none false = refl

or-else : (same before : Bool) → cond same true before ≡ (before || same)
or-else true true = refl
or-else true false = refl
or-else false true = refl
or-else false false = refl

-- nothing is added, or one number
pub Adds-none : (s : BTreeSet (ℕ × ℕ)) → Adds s s None
Adds-none s = λ n. or-none (has s n)

pub Adds-one : (old new : BTreeSet (ℕ × ℕ)) (key : ℕ × ℕ) → ((q : ℕ × ℕ) → contains number_cmp new q ≡ cond (is_eq (number_cmp key q)) true (contains number_cmp old q)) → Adds old new (Some key)
Adds-one old new key updates = λ n. updates n ∙ ap (λ b. cond b true (has old n)) (key-is key n) ∙ or-else (is_same n key) (has old n)

-- a set that has what was transmitted before an entry has what was transmitted up to it
pub sent-more : (node : ℕ) (before : List Entry) (e : Entry) (old new : BTreeSet (ℕ × ℕ))
    → ((n : ℕ × ℕ) → has old n ≡ was_sent node before n) → Adds old new (number_in node e) → (n : ℕ × ℕ) → has new n ≡ was_sent node (before ++ e ∷ []) n
sent-more node before e old new was adds = λ n.
    let here = option_map_or (is_same n) (number_in node e) false in
    adds n ∙ ap (λ b. b || here) (was n) ∙ ap (λ b. was_sent node before n || b) (or-none here)
    ∙ sym (list_any-append (λ x. option_map_or (is_same n) (number_in node x) false) before (e ∷ []))
