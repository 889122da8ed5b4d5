-- Two lists of numbers with each number as often weigh the same.
use Rattle.std.proofs.Common.{◌≡◌, ℕ, suc, ◌+◌, ◌<◌, Bool, true, false, cond, eqb, List, [], ◌∷◌, ◌++◌, length, refl, sym, ◌∙◌, ap, arith, sum_by}
use Rattle.std.proofs.lemmas.Bool.{eqb-true, eq-eqb}
use Rattle.std.proofs.lemmas.List.Sums.{sum_by-cons, sum_by-append}
use Rattle.csp_deck.specs.Step.{times}

-- how often a number is in two lists, one after the other
pub times-append : (k : ℕ) (xs ys : List ℕ) → times k (xs ++ ys) ≡ times k xs + times k ys
times-append k xs ys = sum_by-append (λ n. cond (eqb n k) 1 0) xs ys

-- what a number counts for, where another is counted
abbrev mark : ℕ → ℕ → ℕ
mark k n = cond (eqb n k) 1 0

-- the list without the first of this number
abbrev without : ℕ → List ℕ → List ℕ
without k [] = []
without k (y ∷ ys) = cond (eqb y k) ys (y ∷ without k ys)

times-cons : (k y : ℕ) (ys : List ℕ) → times k (y ∷ ys) ≡ mark k y + times k ys
times-cons k y ys = sum_by-cons (mark k) y ys

-- a number is in a list that begins with it
times-first : (k : ℕ) (ys : List ℕ) → times k (k ∷ ys) ≡ 1 + times k ys
times-first k ys = times-cons k k ys ∙ ap (λ b. cond b 1 0 + times k ys) (eq-eqb k k refl)

-- what it weighs, and what the rest does
weighs-without : (w : ℕ → ℕ) (k : ℕ) (ys : List ℕ) → 0 < times k ys → sum_by w ys ≡ w k + sum_by w (without k ys)
weighs-without w k [] h = absurd (omega (arith, h))
weighs-without w k (y ∷ ys) h = by (eqb y k) refl (weighs-without w k ys)
  where
    later : (m n : ℕ) → 0 < m → m ≡ 0 + n → 0 < n
    later m n a b = omega arith

    swapped : (t u s v y k : ℕ) → t ≡ y + s → s ≡ k + v → u ≡ y + v → t ≡ k + u
    swapped t u s v y k a b c = omega arith

    by : (b : Bool) → eqb y k ≡ b → (0 < times k ys → sum_by w ys ≡ w k + sum_by w (without k ys)) → sum_by w (y ∷ ys) ≡ w k + sum_by w (cond b ys (y ∷ without k ys))
    by true e rest = sum_by-cons w y ys ∙ ap (λ n. w n + sum_by w ys) (eqb-true y k e)
    by false e rest = swapped _ _ _ _ _ _ (sum_by-cons w y ys) (rest (later _ _ h (times-cons k y ys ∙ ap (λ b. cond b 1 0 + times k ys) e))) (sum_by-cons w y (without k ys))

pub weighs_same : (xs ys : List ℕ) → ((k : ℕ) → times k xs ≡ times k ys) → (w : ℕ → ℕ) → sum_by w xs ≡ sum_by w ys
weighs_same [] [] e w = refl
weighs_same [] (y ∷ ys) e w = let a = e y in let b = times-first y ys in absurd (none _ _ a b) where
  none : (m n : ℕ) → 0 ≡ m → m ≡ 1 + n → ⊥
  none m n a b = omega arith
weighs_same (x ∷ xs) ys e w =
    let here : 0 < times x ys = some _ _ _ (times-first x xs) (e x) in
    let rest : (k : ℕ) → times k xs ≡ times k (without x ys) = λ k. less _ _ _ _ _ (e k) (times-cons k x xs) (weighs-without (mark k) x ys here) in
    sum_by-cons w x xs ∙ ap (λ n. w x + n) (weighs_same xs (without x ys) rest w) ∙ sym (weighs-without w x ys here)
  where
    some : (m n o : ℕ) → m ≡ 1 + n → m ≡ o → 0 < o
    some m n o a b = omega arith

    less : (m n a s t : ℕ) → m ≡ n → m ≡ a + s → n ≡ a + t → s ≡ t
    less m n a s t e f g = omega arith

-- a list is as long as it weighs where each number weighs 1
weight-one : (xs : List ℕ) → sum_by (λ _. 1) xs ≡ length xs
weight-one [] = refl
weight-one (x ∷ xs) = one _ _ _ (sum_by-cons (λ _. 1) x xs) (weight-one xs) where
  one : (m n o : ℕ) → m ≡ 1 + n → n ≡ o → m ≡ suc o
  one m n o a b = omega arith

pub long_same : (xs ys : List ℕ) → ((k : ℕ) → times k xs ≡ times k ys) → length xs ≡ length ys
long_same xs ys e = sym (weight-one xs) ∙ weighs_same xs ys e (λ _. 1) ∙ weight-one ys
