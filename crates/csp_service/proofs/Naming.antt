-- names of interfaces
use Rattle.std.proofs.Common.{◌≡◌, ℕ, ◌+◌, ap, refl, sym, cond, List, [], ◌∷◌, map, Some, None, Bool, not, nat_lt}
use Rattle.std.specs.List.{position, position_or_len, prefix_len}
use Rattle.std.specs.Str.{bytes_eq}
use Rattle.std.proofs.lemmas.List.{length-map}
use Rattle.arrayvec.specs.ArrayString.{ArrayString}
use Rattle.csp_route.specs.Text.{names_of}

-- the first of these elements, told of what they are seen as
position_seen : {A B : Type 0} (f : A → B) (p : B → Bool) (xs : List A) → position p (map f xs) ≡ position (λ x. p (f x)) xs
position_seen f p xs = λ i. cond (nat_lt (place i) (length-map xs f i)) (Some (place i)) None
  where
    from : (ys : List _) → prefix_len (λ y. not (p y)) (map f ys) ≡ prefix_len (λ x. not (p (f x))) ys
    from [] = refl
    from (y ∷ ys) = ap (λ k. cond (not (p (f y))) (1 + k) 0) (from ys)

    place : position_or_len p (map f xs) ≡ position_or_len (λ x. p (f x)) xs
    place = from xs

-- the first name that is a word
pub named : (names : List ArrayString) (word : List ℕ) → position (λ name. bytes_eq name.bytes word) names ≡ position (λ name. bytes_eq name word) (names_of names)
named names word = sym (position_seen (λ (name : ArrayString). name.bytes) (λ name. bytes_eq name word) names)
