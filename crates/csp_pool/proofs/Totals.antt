-- Sums over a list of which an element is replaced, and what holds of each element.
use Rattle.std.proofs.Common.{◌≡◌, ◌≢◌, ℕ, zero, suc, ◌+◌, ◌≤◌, List, [], ◌∷◌, ◌++◌, set, sym, refl, ap, subst, ⊎_elim, arith}
use Rattle.std.specs.List.{sum_by}
use Rattle.std.proofs.lemmas.List.Sums.{sum_by-cons}
use mathlib.Core.Option.{some, some-injective, some-ne-none}
use lib.ListN.{get_elem?}
use Rattle.crossbeam_queue.proofs.Lists.{at_set, at_snoc}

module _ {X : Type 0} where
  -- F holds of each
  abbrev pub Each : (X → Type 0) → List X → Type 0
  Each F views = (i : ℕ) (v : X) → get_elem? views i ≡ some v → F v

  -- and of each but that of the index i
  abbrev pub Others : (X → Type 0) → ℕ → List X → Type 0
  Others F i views = (j : ℕ) (v : X) → j ≢ i → get_elem? views j ≡ some v → F v

  pub each_set : (F : X → Type 0) (views : List X) (i : ℕ) (w : X) → F w → Others F i views → Each F (set views i w)
  each_set F views i w mine others j u e = ⊎_elim (λ (x : (j ≡ i) × (w ≡ u)). subst F x.1 mine) (λ (x : (j ≢ i) × (get_elem? views j ≡ some u)). others j u x.0 x.1) (at_set views i j w u e)

  pub each_snoc : (F : X → Type 0) (views : List X) (w : X) → F w → Each F views → Each F (views ++ w ∷ [])
  each_snoc F views w mine all j u e = ⊎_elim (λ (x : get_elem? views j ≡ some u). all j u x) (λ (x : w ≡ u). subst F x mine) (at_snoc views w u j e)

  -- the sum once an element is replaced
  pub changed : (f : X → ℕ) (l : List X) (i : ℕ) (v w : X) → get_elem? l i ≡ some v → sum_by f (set l i w) + f v ≡ sum_by f l + f w
  changed f [] i v w e = absurd (some-ne-none v (sym e))
  changed f (x ∷ xs) zero v w e = let a = sum_by-cons f x xs in let b = sum_by-cons f w xs in let c : f x ≡ f v = ap f (some-injective x v e) in omega arith
  changed f (x ∷ xs) (suc i) v w e = let a = sum_by-cons f x xs in let b = sum_by-cons f x (set xs i w) in let c = changed f xs i v w e in omega arith

  -- an element's part is no more than the sum
  pub share : (f : X → ℕ) (l : List X) (i : ℕ) (v : X) → get_elem? l i ≡ some v → f v ≤ sum_by f l
  share f [] i v e = absurd (some-ne-none v (sym e))
  share f (x ∷ xs) zero v e = let a = sum_by-cons f x xs in let c : f x ≡ f v = ap f (some-injective x v e) in omega arith
  share f (x ∷ xs) (suc i) v e = let a = sum_by-cons f x xs in let c = share f xs i v e in omega arith

  -- nor are two elements' parts
  pub pair : (f : X → ℕ) (l : List X) (i j : ℕ) (v u : X) → j ≢ i → get_elem? l i ≡ some v → get_elem? l j ≡ some u → f v + f u ≤ sum_by f l
  pair f [] i j v u n e d = absurd (some-ne-none v (sym e))
  pair f (x ∷ xs) zero zero v u n e d = absurd (n refl)
  pair f (x ∷ xs) zero (suc j) v u n e d = let a = sum_by-cons f x xs in let c : f x ≡ f v = ap f (some-injective x v e) in let k = share f xs j u d in omega arith
  pair f (x ∷ xs) (suc i) zero v u n e d = let a = sum_by-cons f x xs in let c : f x ≡ f u = ap f (some-injective x u d) in let k = share f xs i v e in omega arith
  pair f (x ∷ xs) (suc i) (suc j) v u n e d = let a = sum_by-cons f x xs in let c = pair f xs i j v u (λ h. n (ap suc h)) e d in omega arith

  -- where every other element has no part, the sum is this one's
  pub none : (f : X → ℕ) (l : List X) → Each (λ u. f u ≡ 0) l → sum_by f l ≡ 0
  none f [] all = refl
  none f (x ∷ xs) all = let a = sum_by-cons f x xs in let b : f x ≡ 0 = all 0 x refl in let c = none f xs (λ j u e. all (suc j) u e) in omega arith

  pub only : (f : X → ℕ) (l : List X) (i : ℕ) (v : X) → get_elem? l i ≡ some v → Others (λ u. f u ≡ 0) i l → sum_by f l ≡ f v
  only f [] i v e all = absurd (some-ne-none v (sym e))
  only f (x ∷ xs) zero v e all = let a = sum_by-cons f x xs in let c : f x ≡ f v = ap f (some-injective x v e) in let k = none f xs (λ j u d. all (suc j) u (λ h. omega arith) d) in omega arith
  only f (x ∷ xs) (suc i) v e all = let a = sum_by-cons f x xs in let b : f x ≡ 0 = all 0 x (λ h. omega arith) refl in
      let c = only f xs i v e (λ j u n d. all (suc j) u (λ h. n (omega arith)) d) in omega arith
