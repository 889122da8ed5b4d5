-- The first part of a text that is cut, and what is left.
use Rattle.std.proofs.Common.{◌≡◌, ℕ, ◌+◌, ◌-◌, ◌<◌, ◌≤◌, sym, ap, ◌∙◌, subst, refl, arith, cond, List, [], ◌∷◌, length, take, drop, Option, Some, None, Bool, true, false, nat_lt, ◌==◌}
use Rattle.std.specs.List.{position, position_or_len, slice_split}
use Rattle.std.proofs.lemmas.Bool.{ltb-true, ltb-false}
use Rattle.std.proofs.lemmas.List.{length-take-le, length-drop, take_all}
use Rattle.std.proofs.lemmas.List.Sums.{fails_before_first}
use Rattle.std.proofs.lemmas.List.Elements.{All-from_get_or}
use Rattle.std.proofs.lemmas.List.Splits.{slice_split_first, slice_split_none}
use Rattle.std.specs.Borrow.{Bor}
use Rattle.csp_route.specs.Parts.{placed, parts_of}
use Rattle.csp_route.specs.Reader.{parts_left}

-- what `position` says of the first place that passes
first_place : (p : ℕ → Bool) (xs : List ℕ) (b : Bool) (i : ℕ) → nat_lt (position_or_len p xs) (length xs) ≡ b → cond b (Some (position_or_len p xs)) None ≡ Some i → (position_or_len p xs ≡ i) × (i < length xs)
first_place p xs true i t e = let same : position_or_len p xs ≡ i = cc in (same, subst (λ k. k < length xs) same (ltb-true _ _ t))
first_place p xs false i t e = absurd (cc)

no_place : (p : ℕ → Bool) (xs : List ℕ) (b : Bool) → nat_lt (position_or_len p xs) (length xs) ≡ b → cond b (Some (position_or_len p xs)) None ≡ None → length xs ≤ position_or_len p xs
no_place p xs true t e = absurd (cc)
no_place p xs false t e = ltb-false _ _ t

pub cut_found : (separator at i : ℕ) (bytes : List ℕ) → position (λ b. b == separator) bytes ≡ Some i → parts_of separator at bytes ≡ record { at = at; bytes = take i bytes } ∷ parts_of separator (at + (i + 1)) (drop (i + 1) bytes)
cut_found separator at i bytes e =
    let first : (position_or_len (λ b. b == separator) bytes ≡ i) × (i < length bytes) = first_place (λ b. b == separator) bytes _ i refl e in
    let place = first.0 in
    let front : length (take i bytes) ≡ i = length-take-le i bytes (omega (arith, first.1)) in
    ap (placed at) (slice_split_first (λ b. b == separator) bytes 0 (omega (arith, first.0, first.1)))
    ∙ ap (λ k. placed at (take k bytes ∷ slice_split (λ b. b == separator) (drop (k + 1) bytes))) place
    ∙ ap (λ n. record { at = at; bytes = take i bytes } ∷ parts_of separator n (drop (i + 1) bytes)) (omega (arith, front))

pub cut_last : (separator at : ℕ) (bytes : List ℕ) → position (λ b. b == separator) bytes ≡ None → parts_of separator at bytes ≡ record { at = at; bytes = bytes } ∷ []
cut_last separator at bytes e =
    let past : length bytes ≤ position_or_len (λ b. b == separator) bytes = no_place (λ b. b == separator) bytes _ refl e in
    ap (placed at) (slice_split_none (λ b. b == separator) bytes (All-from_get_or (λ b. (b == separator) ≡ false) bytes 0 (λ i low. fails_before_first (λ b. b == separator) bytes i 0 (omega (arith, past, low)))))

-- what is left of a list after its front, as a slice gives it
pub rest_whole : (n : ℕ) (bytes : List ℕ) → take (length bytes - n) (drop n bytes) ≡ drop n bytes
rest_whole n bytes = take_all _ _ (omega (arith, length-drop n bytes))

-- the first part of what is left, and what is left then
pub left_found : (separator at i : ℕ) (left : Option (Bor (List ℕ))) (bytes : Bor (List ℕ)) → left ≡ Some bytes → position (λ b. b == separator) bytes.now ≡ Some i → parts_left separator at left ≡ record { at = at; bytes = take i bytes.now } ∷ parts_of separator (at + (i + 1)) (take (length bytes.now - (i + 1)) (drop (i + 1) bytes.now))
left_found separator at i left bytes is e =
    ap (parts_left separator at) is ∙ cut_found separator at i bytes.now e
    ∙ ap (λ l. record { at = at; bytes = take i bytes.now } ∷ parts_of separator (at + (i + 1)) l) (sym (rest_whole (i + 1) bytes.now))

pub left_last : (separator at : ℕ) (left : Option (Bor (List ℕ))) (bytes : Bor (List ℕ)) → left ≡ Some bytes → position (λ b. b == separator) bytes.now ≡ None → parts_left separator at left ≡ record { at = at; bytes = bytes.now } ∷ []
left_last separator at left bytes is e = ap (parts_left separator at) is ∙ cut_last separator at bytes.now e
