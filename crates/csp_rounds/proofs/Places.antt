-- rounds of lists of posts, place by place
use Rattle.std.proofs.Common.{◌≡◌, ℕ, suc, ◌<◌, List, [], ◌∷◌, length, get_or, subst, arith}
use Rattle.std.specs.List.{AllZip}
use Rattle.std.proofs.lemmas.List.Elements.{AllZip-get_or}

-- what holds at each place holds of the lists
pub all_zip : {A : Type 0} (R : A → A → Type 0) (xs ys : List A) → length ys ≡ length xs → ((k : ℕ) (d : A) → k < length xs → R (get_or xs k d) (get_or ys k d)) → AllZip R xs ys
all_zip R [] [] same at = tt
all_zip R [] (y ∷ ys) same at = let no : ⊥ = omega (arith, same) in no
all_zip R (x ∷ xs) [] same at = let no : ⊥ = omega (arith, same) in no
all_zip R (x ∷ xs) (y ∷ ys) same at = (at 0 x (omega arith), all_zip R xs ys (omega (arith, same)) (λ k d less. at (suc k) d (omega arith)))

-- what holds of two parts holds at a place that lies in them
pub at_place : {A : Type 0} (R : A → A → Type 0) (part after : List A) (offset : ℕ) (d x y : A) → AllZip R part after → offset < length part → get_or part offset d ≡ x → get_or after offset d ≡ y → R x y
at_place R part after offset d x y all less old new = subst (λ z. R z y) old (subst (R (get_or part offset d)) new (AllZip-get_or R part after offset d d all less))
