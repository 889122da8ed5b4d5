-- What is found in a list, and what its first have.
use Rattle.std.proofs.Common.{◌≡◌, ◌<◌, ℕ, zero, suc, Bool, true, List, [], ◌∷◌, Some, take, arith}
use Rattle.std.specs.Prelude.{slice_get}
use Rattle.std.specs.List.{find}
use Rattle.std.proofs.lemmas.Bool.{false_from_ne_true}
use Rattle.csp_ends.proofs.Public.{first_of}

module _ {X : Type 0} where
  -- the only one of which a test is true
  pub only_of : (test : X → Bool) (xs : List X) (at : ℕ) (x : X) → slice_get xs at ≡ Some x → test x ≡ true → ((k : ℕ) (y : X) → slice_get xs k ≡ Some y → test y ≡ true → k ≡ at) → find test xs ≡ Some x
  only_of test xs at x there holds one =
      first_of test xs at x there holds (λ k y less e. false_from_ne_true (test y) (λ t. (let same = one k y e t in omega (arith, less, same))))

  -- what the first of a list have at a place
  pub take_at : (n : ℕ) (xs : List X) (k : ℕ) (x : X) → slice_get xs k ≡ Some x → k < n → slice_get (take n xs) k ≡ Some x
  take_at zero xs k x e low = absurd (omega (arith, low))
  take_at (suc n) [] k x e low = absurd cc
  take_at (suc n) (y ∷ xs) zero x e low = e
  take_at (suc n) (y ∷ xs) (suc k) x e low = take_at n xs k x e (omega (arith, low))

  pub take_from : (n : ℕ) (xs : List X) (k : ℕ) (x : X) → slice_get (take n xs) k ≡ Some x → slice_get xs k ≡ Some x
  take_from zero xs k x e = absurd cc
  take_from (suc n) [] k x e = absurd cc
  take_from (suc n) (y ∷ xs) zero x e = e
  take_from (suc n) (y ∷ xs) (suc k) x e = take_from n xs k x e
