-- How many of a list pass a test, where one more stands in it, or some are gone.
use Rattle.std.proofs.Common.{◌≡◌, ℕ, ◌+◌, ◌≤◌, Bool, true, false, cond, not, Some, List, [], ◌∷◌, ◌++◌, count_by, filter, find, unwrap_or, refl, sym, ap, ◌∙◌, arith}
use Rattle.std.proofs.lemmas.List.Filters.{sum_by-filter_both}
use Rattle.std.proofs.lemmas.List.Sums.{sum_by-append, sum_by-cons, sum_by_push}
use Rattle.std.specs.Prelude.{if◌then◌else◌}
use Rattle.csp_can.specs.Open.{remove_first}

module _ {X : Type 0} (test : X → Bool) where
  -- one counts 1 where it passes
  abbrev pub one : X → ℕ
  one x = cond (test x) 1 0

  pub count_cons : (x : X) (xs : List X) → count_by test (x ∷ xs) ≡ one x + count_by test xs
  count_cons x xs = sum_by-cons one x xs

  pub count_push : (xs : List X) (x : X) → count_by test (xs ++ x ∷ []) ≡ count_by test xs + one x
  count_push xs x = sum_by_push one xs x

  pub count_append : (xs ys : List X) → count_by test (xs ++ ys) ≡ count_by test xs + count_by test ys
  count_append xs ys = sum_by-append one xs ys

  -- those that are kept are no more
  pub count_filter : (kept : X → Bool) (xs : List X) → count_by test (filter kept xs) ≤ count_by test xs
  count_filter kept xs =
      let both : count_by test (filter kept xs) + count_by test (filter (λ x. not (kept x)) xs) ≡ count_by test xs = sum_by-filter_both kept (λ x. not (kept x)) (λ x. refl) one xs in
      omega (arith, both)

  -- without the first that is found they are those beside it, and without the first that there may be no more
  pub count_apart : (found : X → Bool) (xs : List X) (x : X) → find found xs ≡ Some x → one x + count_by test (remove_first found xs) ≡ count_by test xs
  count_apart found [] x e = absurd cc
  count_apart found (y ∷ xs) x e =
      first (found y) e (count_apart found xs x)
    where
      first : (b : Bool) → cond b (Some y) (find found xs) ≡ Some x → (find found xs ≡ Some x → one x + count_by test (remove_first found xs) ≡ count_by test xs)
          → one x + count_by test (if b then xs else y ∷ remove_first found xs) ≡ count_by test (y ∷ xs)
      first true is rest =
          let same : x ≡ y = ap (λ o. unwrap_or o y) (sym is) in
          ap (λ z. one z + count_by test xs) same ∙ sym (count_cons y xs)
      first false is rest =
          let without : count_by test (y ∷ remove_first found xs) ≡ one y + count_by test (remove_first found xs) = count_cons y (remove_first found xs) in
          let all : count_by test (y ∷ xs) ≡ one y + count_by test xs = count_cons y xs in
          let later : one x + count_by test (remove_first found xs) ≡ count_by test xs = rest is in
          omega (arith, without, all, later)

  pub count_without : (found : X → Bool) (xs : List X) → count_by test (remove_first found xs) ≤ count_by test xs
  count_without found [] = omega arith
  count_without found (y ∷ xs) =
      first (found y) (count_without found xs)
    where
      first : (b : Bool) → count_by test (remove_first found xs) ≤ count_by test xs → count_by test (if b then xs else y ∷ remove_first found xs) ≤ count_by test (y ∷ xs)
      first true rest =
          let all : count_by test (y ∷ xs) ≡ one y + count_by test xs = count_cons y xs in
          omega (arith, all)
      first false rest =
          let without : count_by test (y ∷ remove_first found xs) ≡ one y + count_by test (remove_first found xs) = count_cons y (remove_first found xs) in
          let all : count_by test (y ∷ xs) ≡ one y + count_by test xs = count_cons y xs in
          omega (arith, without, all, rest)
