-- What is at a place of a list, of two lists of one length, or of a list that was made from another.
use Rattle.std.proofs.Common.{◌≡◌, ℕ, Option, Some, None, List, [], ◌∷◌, zero, suc, map, option_map, unwrap_or, slice_get, refl, ap, subst}
use Rattle.std.specs.List.{AllByRecursion, AllZip}

pub each_at : {X : Type 0} (P : X → Type 0) (xs : List X) (k : ℕ) (x : X) → AllByRecursion P xs → slice_get xs k ≡ Some x → P x
each_at P [] k x all e = absurd cc
each_at P (y ∷ xs) zero x all e = subst P (ap (λ o. unwrap_or o x) e) all.0
each_at P (y ∷ xs) (suc k) x all e = each_at P xs k x all.1 e

pub each_from : {X : Type 0} (P : X → Type 0) (xs : List X) → ((k : ℕ) (x : X) → slice_get xs k ≡ Some x → P x) → AllByRecursion P xs
each_from P [] at = tt
each_from P (x ∷ xs) at = (at 0 x refl, each_from P xs (λ k y e. at (suc k) y e))

-- both of each
pub each_both : {X : Type 0} (P Q R : X → Type 0) (xs : List X) → ((x : X) → P x → Q x → R x) → AllByRecursion P xs → AllByRecursion Q xs → AllByRecursion R xs
each_both P Q R [] both ps qs = tt
each_both P Q R (x ∷ xs) both ps qs = (both x ps.0 qs.0, each_both P Q R xs both ps.1 qs.1)

pub zip_before : {X Y : Type 0} (R : X → Y → Type 0) (xs : List X) (ys : List Y) (k : ℕ) (y : Y) → AllZip R xs ys → slice_get ys k ≡ Some y → (x : X) × (slice_get xs k ≡ Some x) × R x y
zip_before R [] [] k y zip e = absurd cc
zip_before R [] (z ∷ ys) k y zip e = absurd zip
zip_before R (x ∷ xs) [] k y zip e = absurd zip
zip_before R (x ∷ xs) (z ∷ ys) zero y zip e = (x, refl, subst (R x) (ap (λ o. unwrap_or o y) e) zip.0)
zip_before R (x ∷ xs) (z ∷ ys) (suc k) y zip e = zip_before R xs ys k y zip.1 e

pub zip_after : {X Y : Type 0} (R : X → Y → Type 0) (xs : List X) (ys : List Y) (k : ℕ) (x : X) → AllZip R xs ys → slice_get xs k ≡ Some x → (y : Y) × (slice_get ys k ≡ Some y) × R x y
zip_after R [] ys k x zip e = absurd cc
zip_after R (z ∷ xs) [] k x zip e = absurd zip
zip_after R (z ∷ xs) (y ∷ ys) zero x zip e = (y, refl, subst (λ w. R w y) (ap (λ o. unwrap_or o x) e) zip.0)
zip_after R (z ∷ xs) (y ∷ ys) (suc k) x zip e = zip_after R xs ys k x zip.1 e

-- what is true of each of the first list besides
pub zip_with : {X Y : Type 0} (P : X → Type 0) (R S : X → Y → Type 0) (xs : List X) (ys : List Y) → ((x : X) (y : Y) → P x → R x y → S x y) → AllByRecursion P xs → AllZip R xs ys → AllZip S xs ys
zip_with P R S [] [] both ps zip = tt
zip_with P R S [] (y ∷ ys) both ps zip = zip
zip_with P R S (x ∷ xs) [] both ps zip = zip
zip_with P R S (x ∷ xs) (y ∷ ys) both ps zip = (both x y ps.0 zip.0, zip_with P R S xs ys both ps.1 zip.1)

-- and so of each of the second
pub zip_each : {X Y : Type 0} (R : X → Y → Type 0) (Q : Y → Type 0) (xs : List X) (ys : List Y) → ((x : X) (y : Y) → R x y → Q y) → AllZip R xs ys → AllByRecursion Q ys
zip_each R Q [] [] gives zip = tt
zip_each R Q [] (y ∷ ys) gives zip = absurd zip
zip_each R Q (x ∷ xs) [] gives zip = tt
zip_each R Q (x ∷ xs) (y ∷ ys) gives zip = (gives x y zip.0, zip_each R Q xs ys gives zip.1)

pub mapped_at : {X Y : Type 0} (f : X → Y) (xs : List X) (k : ℕ) (y : Y) → slice_get (map f xs) k ≡ Some y → (x : X) × (slice_get xs k ≡ Some x) × (f x ≡ y)
mapped_at f [] k y e = absurd cc
mapped_at f (x ∷ xs) zero y e = (x, refl, ap (λ o. unwrap_or o y) e)
mapped_at f (x ∷ xs) (suc k) y e = mapped_at f xs k y e

pub mapped_some : {X Y : Type 0} (f : X → Y) (o : Option X) (y : Y) → option_map f o ≡ Some y → (x : X) × (o ≡ Some x) × (f x ≡ y)
mapped_some f None y e = absurd cc
mapped_some f (Some x) y e = (x, refl, ap (λ o. unwrap_or o y) e)
