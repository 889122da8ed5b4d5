-- Items that agree under each mark have the same buffers.
use Rattle.std.proofs.Common.{◌≡◌, ◌+◌, ◌≤◌, ◌==◌, ℕ, zero, suc, Bool, true, false, List, [], ◌∷◌, ◌++◌, refl, sym, ap, ◌∙◌, arith}
use Rattle.std.specs.Prelude.{if◌then◌else◌, nat_lt}
use Rattle.std.proofs.lemmas.Bool.{lt-ltb, eqb-true, eqb-false, ltb-true, ltb-false, le-ltb}
use Rattle.std.proofs.lemmas.Grind.{flat_map-append}
use Rattle.csp_deck.proofs.Public.{times-append}
use Rattle.csp_deck.specs.Step.{item_numbers, times}
use Rattle.csp_inbox.specs.Marks.{mark_of, with_mark}
use Rattle.csp_lists.specs.PlainDeck.{numbers_of}
use Rattle.csp_log.specs.declared.shown.ItemShown.{ItemShown}

-- how often a number is among the buffers of items
abbrev pub among : ℕ → List ItemShown → ℕ
among k is = times k (numbers_of is)

pub among-append : (k : ℕ) (xs ys : List ItemShown) → among k (xs ++ ys) ≡ among k xs + among k ys
among-append k xs ys = ap (times k) (flat_map-append item_numbers xs ys) ∙ times-append k (numbers_of xs) (numbers_of ys)

-- how often it is among those of items whose mark is below this one
below : (k m : ℕ) → List ItemShown → ℕ
below k m [] = 0
below k m (x ∷ xs) = (if nat_lt (mark_of x) m then times k (item_numbers x) else 0) + below k m xs

-- below the next mark are besides those of this one
one_more : (a m n : ℕ) → (if nat_lt a (suc m) then n else 0) ≡ (if nat_lt a m then n else 0) + (if a == m then n else 0)
one_more a m n = by (nat_lt a (suc m)) refl (nat_lt a m) refl (a == m) refl where
  by : (b : Bool) → nat_lt a (suc m) ≡ b → (c : Bool) → nat_lt a m ≡ c → (d : Bool) → (a == m) ≡ d → (if b then n else 0) ≡ (if c then n else 0) + (if d then n else 0)
  by true e true f true g = absurd (omega (arith, ltb-true a m f, eqb-true a m g))
  by true e true f false g = omega arith
  by true e false f true g = omega arith
  by true e false f false g = absurd (eqb-false a m g (omega (arith, ltb-true a (suc m) e, ltb-false a m f)))
  by false e true f d g = absurd (omega (arith, ltb-false a (suc m) e, ltb-true a m f))
  by false e false f true g = absurd (omega (arith, ltb-false a (suc m) e, eqb-true a m g))
  by false e false f false g = refl

marked_first : (k m : ℕ) (x : ItemShown) (xs : List ItemShown) → among k (with_mark m (x ∷ xs)) ≡ (if mark_of x == m then times k (item_numbers x) else 0) + among k (with_mark m xs)
marked_first k m x xs = by (mark_of x == m) where
  by : (b : Bool) → among k (if b then x ∷ with_mark m xs else with_mark m xs) ≡ (if b then times k (item_numbers x) else 0) + among k (with_mark m xs)
  by true = times-append k (item_numbers x) (numbers_of (with_mark m xs))
  by false = omega arith

below_next : (k m : ℕ) (xs : List ItemShown) → below k (suc m) xs ≡ below k m xs + among k (with_mark m xs)
unfolding below
below_next k m [] = refl
below_next k m (x ∷ xs) =
    let one = one_more (mark_of x) m (times k (item_numbers x)) in
    let first = marked_first k m x xs in
    let rest = below_next k m xs in
    omega (arith, one, first, rest)

below_none : (k : ℕ) (xs : List ItemShown) → below k 0 xs ≡ 0
unfolding below
below_none k [] = refl
below_none k (x ∷ xs) =
    let first = ap (λ (b : Bool). if b then times k (item_numbers x) else 0) (le-ltb (mark_of x) 0 (omega arith)) in
    let rest = below_none k xs in
    omega (arith, first, rest)

-- a mark above all of these
above : List ItemShown → ℕ
above [] = 0
above (x ∷ xs) = mark_of x + 1 + above xs

below_all : (k m : ℕ) (xs : List ItemShown) → above xs ≤ m → below k m xs ≡ among k xs
unfolding below above
below_all k m [] h = refl
below_all k m (x ∷ xs) h =
    let first = ap (λ (b : Bool). if b then times k (item_numbers x) else 0) (lt-ltb (mark_of x) m (omega (arith, h))) in
    let both = times-append k (item_numbers x) (numbers_of xs) in
    let rest = below_all k m xs (omega (arith, h)) in
    omega (arith, first, both, rest)

below_same : (k m : ℕ) (xs ys : List ItemShown) → ((n : ℕ) → with_mark n xs ≡ with_mark n ys) → below k m xs ≡ below k m ys
below_same k zero xs ys same = below_none k xs ∙ sym (below_none k ys)
below_same k (suc m) xs ys same =
    let one = below_next k m xs in
    let other = below_next k m ys in
    let these = ap (among k) (same m) in
    let rest = below_same k m xs ys same in
    omega (arith, one, other, these, rest)

pub same_numbers : (k : ℕ) (xs ys : List ItemShown) → ((m : ℕ) → with_mark m xs ≡ with_mark m ys) → among k xs ≡ among k ys
same_numbers k xs ys same =
    sym (below_all k (above xs + above ys) xs (omega arith)) ∙ below_same k (above xs + above ys) xs ys same ∙ below_all k (above xs + above ys) ys (omega arith)
