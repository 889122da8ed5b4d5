use Rattle.std.proofs.Common.{◌≡◌, ℕ, zero, suc, ◌+◌, ◌<◌, ◌≤◌, Bool, true, false, not, cond, Some, None, List, [], ◌∷◌, ◌++◌, length, get_or, set, refl, ap, subst, arith}
use Rattle.std.specs.Prelude.{◌&&◌, nat_lt, find, position, remove}
use Rattle.std.specs.List.{filter, list_all, prefix_len}
use Rattle.std.proofs.lemmas.Bool.Decides.{nat_tests}
use Rattle.csp_can.specs.Open.{remove_first}

passed : (b : Bool) (n i : ℕ) → cond b (Some n) None ≡ Some i → (b ≡ true) × (n ≡ i)
passed true n i e = (refl, cc)
passed false n i e = cc

-- a list whose last element is another
pub last_replaced : {K : Type 0} (ks : List K) (i : ℕ) (k : K) → suc i ≡ length ks → set ks i k ≡ remove ks i ++ k ∷ []
last_replaced [] i k h = absurd (omega arith)
last_replaced (x ∷ []) zero k h = refl
last_replaced (x ∷ y ∷ ks) zero k h = absurd (omega arith)
last_replaced (x ∷ ks) (suc i) k h = ap (λ (xs : List _). x ∷ xs) (last_replaced ks i k (omega arith))

module _ {K : Type 0} (p : K → Bool) where
  filter_short : (ks : List K) → length (filter p ks) ≤ length ks
  filter_short [] = omega arith
  filter_short (k ∷ ks) = let rest = filter_short ks in
      elim (p k) as (λ b. length (cond b (k ∷ filter p ks) (filter p ks)) ≤ suc (length ks)) [
        | true ↦ omega (arith, rest)
        | false ↦ omega (arith, rest)
      ]

  -- each element passes exactly where all of them stay
  pub all_stay : (ks : List K) → (list_all p ks ≡ true → filter p ks ≡ ks) × (filter p ks ≡ ks → list_all p ks ≡ true)
  all_stay [] = (λ _. refl, λ _. refl)
  all_stay (k ∷ ks) =
      let rest = all_stay ks in
      let short = filter_short ks in
      elim (p k) as (λ b. ((b && list_all p ks) ≡ true → cond b (k ∷ filter p ks) (filter p ks) ≡ k ∷ ks) × (cond b (k ∷ filter p ks) (filter p ks) ≡ k ∷ ks → (b && list_all p ks) ≡ true)) [
        | true ↦ (λ h. ap (λ (xs : List K). k ∷ xs) (rest.0 h), λ h. rest.1 cc)
        | false ↦ (λ h. absurd cc, λ h. let same = ap length h in absurd (omega (arith, short, same)))
      ]

  -- how many come before the first that passes
  abbrev before : List K → ℕ
  before ks = prefix_len (λ x. not (p x)) ks

  none_passes : (ks : List K) → nat_lt (before ks) (length ks) ≡ false → (find p ks ≡ None) × (remove_first p ks ≡ ks)
  none_passes [] h = (refl, refl)
  none_passes (k ∷ ks) h =
      elim (p k) as (λ b. nat_lt (cond (not b) (1 + before ks) 0) (suc (length ks)) ≡ false → (cond b (Some k) (find p ks) ≡ None) × (cond b ks (k ∷ remove_first p ks) ≡ k ∷ ks)) [
        | true ↦ λ e. absurd (grind (arith, nat_tests))
        | false ↦ λ e. let rest = none_passes ks (grind (arith, nat_tests)) in (rest.0, ap (λ (xs : List K). k ∷ xs) rest.1)
      ] h

  one_passes : (ks : List K) (d : K) → nat_lt (before ks) (length ks) ≡ true → (find p ks ≡ Some (get_or ks (before ks) d)) × (remove_first p ks ≡ remove ks (before ks))
  one_passes [] d h = absurd (grind (arith, nat_tests))
  one_passes (k ∷ ks) d h =
      elim (p k) as (λ b. nat_lt (cond (not b) (1 + before ks) 0) (suc (length ks)) ≡ true → (cond b (Some k) (find p ks) ≡ Some (get_or (k ∷ ks) (cond (not b) (1 + before ks) 0) d)) × (cond b ks (k ∷ remove_first p ks) ≡ remove (k ∷ ks) (cond (not b) (1 + before ks) 0))) [
        | true ↦ λ e. (refl, refl)
        | false ↦ λ e.
            let rest = one_passes ks d (grind (arith, nat_tests)) in
            let more : 1 + before ks ≡ suc (before ks) = omega arith in
            rw more (rest.0, ap (λ (xs : List K). k ∷ xs) rest.1)
      ] h

  pub absent : (ks : List K) → position p ks ≡ None → (find p ks ≡ None) × (remove_first p ks ≡ ks)
  absent ks h =
      none_passes ks (elim (nat_lt (before ks) (length ks)) as (λ b. cond b (Some (before ks)) None ≡ None → b ≡ false) [ true ↦ λ e. cc | false ↦ λ e. refl ] h)

  pub present : (ks : List K) (i : ℕ) (d : K) → position p ks ≡ Some i → (find p ks ≡ Some (get_or ks i d)) × (remove_first p ks ≡ remove ks i) × (i < length ks)
  present ks i d h =
      let said = passed _ _ _ h in
      let got = one_passes ks d said.0 in
      let inside : before ks < length ks = grind (arith, nat_tests) in
      subst (λ (j : ℕ). (find p ks ≡ Some (get_or ks j d)) × (remove_first p ks ≡ remove ks j) × (j < length ks)) said.1 (got.0, got.1, inside)

  pub position_inside : (ks : List K) (i : ℕ) → position p ks ≡ Some i → i < length ks
  position_inside ks i h =
      let said = passed _ _ _ h in
      let inside : before ks < length ks = grind (arith, nat_tests) in
      subst (λ (j : ℕ). j < length ks) said.1 inside
