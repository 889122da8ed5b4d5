-- A list cut at some elements, when one more element comes at its end.
use Rattle.std.proofs.Common.{◌≡◌, ℕ, ◌<◌, Bool, true, false, cond, List, [], ◌∷◌, ◌++◌, length, refl, sym, ap, arith}
use Rattle.std.specs.List.{slice_split, onto_first}
use Rattle.std.proofs.lemmas.List.Splits.{length-slice_split}
use Rattle.csp_kiss.specs.Stream.{but_last}

-- one more element in the last part
abbrev pub onto_last : {X : Type 0} → X → List (List X) → List (List X)
onto_last x [] = (x ∷ []) ∷ []
onto_last x (part ∷ []) = (part ++ x ∷ []) ∷ []
onto_last x (part ∷ next ∷ parts) = part ∷ onto_last x (next ∷ parts)

pub slice_split_some : {X : Type 0} (p : X → Bool) (xs : List X) → 0 < length (slice_split p xs)
slice_split_some p xs = omega (arith, length-slice_split p xs)

onto_first-append : {X : Type 0} (y : X) (parts more : List (List X)) → 0 < length parts → onto_first y (parts ++ more) ≡ onto_first y parts ++ more
onto_first-append y [] more h = absurd (omega arith)
onto_first-append y (part ∷ parts) more h = refl

onto_last-cons : {X : Type 0} (x : X) (part : List X) (parts : List (List X)) → 0 < length parts → onto_last x (part ∷ parts) ≡ part ∷ onto_last x parts
onto_last-cons x part [] h = absurd (omega arith)
onto_last-cons x part (next ∷ parts) h = refl

onto_first-onto_last : {X : Type 0} (x y : X) (parts : List (List X)) → 0 < length parts → onto_first y (onto_last x parts) ≡ onto_last x (onto_first y parts)
onto_first-onto_last x y [] h = absurd (omega arith)
onto_first-onto_last x y (part ∷ []) h = refl
onto_first-onto_last x y (part ∷ next ∷ parts) h = refl

pub slice_split-push_yes : {X : Type 0} (p : X → Bool) (xs : List X) (x : X) → p x ≡ true → slice_split p (xs ++ x ∷ []) ≡ slice_split p xs ++ [] ∷ []
slice_split-push_yes p [] x e = rw e refl
slice_split-push_yes p (y ∷ ys) x e =
    let more = slice_split-push_yes p ys x e in
    rw more (elim (p y) as (λ b. cond b ([] ∷ (slice_split p ys ++ [] ∷ [])) (onto_first y (slice_split p ys ++ [] ∷ [])) ≡ cond b ([] ∷ slice_split p ys) (onto_first y (slice_split p ys)) ++ [] ∷ [])
    [ true ↦ refl | false ↦ onto_first-append y (slice_split p ys) ([] ∷ []) (slice_split_some p ys) ])

pub slice_split-push_no : {X : Type 0} (p : X → Bool) (xs : List X) (x : X) → p x ≡ false → slice_split p (xs ++ x ∷ []) ≡ onto_last x (slice_split p xs)
slice_split-push_no p [] x e = rw e refl
slice_split-push_no p (y ∷ ys) x e =
    let more = slice_split-push_no p ys x e in
    rw more (elim (p y) as (λ b. cond b ([] ∷ onto_last x (slice_split p ys)) (onto_first y (onto_last x (slice_split p ys))) ≡ onto_last x (cond b ([] ∷ slice_split p ys) (onto_first y (slice_split p ys))))
    [ true ↦ sym (onto_last-cons x [] (slice_split p ys) (slice_split_some p ys)) | false ↦ onto_first-onto_last x y (slice_split p ys) (slice_split_some p ys) ])

pub but_last-append : (parts : List (List ℕ)) (part : List ℕ) → but_last (parts ++ part ∷ []) ≡ parts
unfolding but_last
but_last-append [] part = refl
but_last-append (first ∷ []) part = refl
but_last-append (first ∷ next ∷ parts) part = ap (λ rest. first ∷ rest) (but_last-append (next ∷ parts) part)

pub but_last-onto_last : (byte : ℕ) (parts : List (List ℕ)) → but_last (onto_last byte parts) ≡ but_last parts
unfolding but_last
but_last-onto_last byte [] = refl
but_last-onto_last byte (first ∷ []) = refl
but_last-onto_last byte (first ∷ next ∷ []) = refl
but_last-onto_last byte (first ∷ next ∷ second ∷ parts) = ap (λ rest. first ∷ rest) (but_last-onto_last byte (next ∷ second ∷ parts))
