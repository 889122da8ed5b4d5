-- Lists, place by place.
use Rattle.std.proofs.Common.{◌≡◌, ◌≢◌, ◌+◌, ℕ, zero, suc, true, false, cond, Some, List, [], ◌∷◌, ◌++◌, ◌==◌, map, refl, sym, ap, ◌∙◌, subst, arith, append_assoc}
use Rattle.std.specs.Prelude.{slice_get}
use Rattle.std.specs.List.{AllByRecursion, flat_map}
use Rattle.std.proofs.lemmas.Bool.Decides.{nat_tests}
use Rattle.std.proofs.lemmas.List.Sums.{sum_by-append}
use Rattle.std.proofs.lemmas.Option.{same_Some}
use Rattle.csp_deck.specs.Step.{times}

pub equal : (a b : ℕ) → (a == b) ≡ true → a ≡ b
equal a b h = grind (arith, nat_tests)

pub equals : (a b : ℕ) → a ≡ b → (a == b) ≡ true
equals a b h = grind (arith, nat_tests)

pub differs : (a b : ℕ) → (a == b) ≡ false → a ≢ b
differs a b h = λ e. grind (arith, nat_tests)

-- a place of a list that was made from another
pub made_from : {X Y : Type 0} (f : X → Y) (xs : List X) (k : ℕ) (y : Y) → slice_get (map f xs) k ≡ Some y → (x : X) × (slice_get xs k ≡ Some x) × (f x ≡ y)
made_from f [] k y e = absurd cc
made_from f (x ∷ xs) zero y e = (x, refl, same_Some (f x) y e)
made_from f (x ∷ xs) (suc k) y e = made_from f xs k y e

pub made_at : {X Y : Type 0} (f : X → Y) (xs : List X) (k : ℕ) (x : X) → slice_get xs k ≡ Some x → slice_get (map f xs) k ≡ Some (f x)
made_at f [] k x e = absurd cc
made_at f (y ∷ xs) zero x e = ap (λ z. Some (f z)) (same_Some y x e)
made_at f (y ∷ xs) (suc k) x e = made_at f xs k x e

-- one of two lists one after the other
pub in_first : {X : Type 0} (xs ys : List X) (k : ℕ) (x : X) → slice_get xs k ≡ Some x → slice_get (xs ++ ys) k ≡ Some x
in_first [] ys k x e = absurd cc
in_first (y ∷ xs) ys zero x e = e
in_first (y ∷ xs) ys (suc k) x e = in_first xs ys k x e

-- it is somewhere in the list
pub record Has {X : Type 0} (P : X → Type 0) (xs : List X) : Type 0 where
  pub place : ℕ
  pub one : X
  pub at : slice_get xs place ≡ Some one
  pub so : P one

pub has_first : {X : Type 0} (P : X → Type 0) (xs ys : List X) → Has P xs → Has P (xs ++ ys)
has_first P xs ys h = record { place = h.place; one = h.one; at = in_first xs ys h.place h.one h.at; so = h.so }

pub has_second : {X : Type 0} (P : X → Type 0) (xs ys : List X) → Has P ys → Has P (xs ++ ys)
has_second P [] ys h = h
has_second P (x ∷ xs) ys h =
    let later = has_second P xs ys h in
    record { place = suc later.place; one = later.one; at = later.at; so = later.so }

-- what holds of each of two lists
pub all_append : {X : Type 0} (P : X → Type 0) (xs ys : List X) → AllByRecursion P xs → AllByRecursion P ys → AllByRecursion P (xs ++ ys)
all_append P [] ys h k = k
all_append P (x ∷ xs) ys h k = (h.0, all_append P xs ys h.1 k)

pub all_at : {X : Type 0} (P : X → Type 0) (xs : List X) (k : ℕ) (x : X) → AllByRecursion P xs → slice_get xs k ≡ Some x → P x
all_at P (y ∷ xs) zero x h e = subst P (same_Some y x e) h.0
all_at P (y ∷ xs) (suc k) x h e = all_at P xs k x h.1 e
all_at P [] k x h e = absurd cc

pub all_from : {X : Type 0} (P : X → Type 0) (xs : List X) → ((k : ℕ) (x : X) → slice_get xs k ≡ Some x → P x) → AllByRecursion P xs
all_from P [] h = tt
all_from P (x ∷ xs) h = (h 0 x refl, all_from P xs (λ k. h (suc k)))

pub all_then : {X : Type 0} (P Q : X → Type 0) (xs : List X) → ((x : X) → P x → Q x) → AllByRecursion P xs → AllByRecursion Q xs
all_then P Q [] f h = tt
all_then P Q (x ∷ xs) f h = (f x h.0, all_then P Q xs f h.1)

-- all that is made of two lists
pub flat_two : {X Y : Type 0} (f : X → List Y) (xs ys : List X) → flat_map f (xs ++ ys) ≡ flat_map f xs ++ flat_map f ys
flat_two f [] ys = refl
flat_two f (x ∷ xs) ys = ap (λ zs. f x ++ zs) (flat_two f xs ys) ∙ sym (append_assoc (f x) (flat_map f xs) (flat_map f ys))

-- how often a number is in both
pub times_two : (k : ℕ) (xs ys : List ℕ) → times k (xs ++ ys) ≡ times k xs + times k ys
times_two k xs ys = sum_by-append (λ (n : ℕ). cond (n == k) 1 0) xs ys
