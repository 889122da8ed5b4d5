-- what is read of bytes is what they begin with
use Rattle.std.proofs.Common.{◌≡◌, ℕ, zero, suc, ◌<◌, ◌≤◌, List, [], ◌∷◌, ◌++◌, length, take, drop, get_or, arith, sym, refl, ap}
use Rattle.std.specs.Int.{w32, to_be_bytes, from_be_bytes}
use Rattle.std.proofs.lemmas.Nat.{be_bytes_4}
use Rattle.std.proofs.lemmas.List.{take-append-drop, length-take}
use Rattle.csp_cmp.specs.declared.code.Code.{Code}
use Rattle.csp_cmp.specs.declared.code.Code.TheVariants.{Ident, RouteSet, Stats, Peek, Poke, Clock}
use Rattle.csp_cmp.specs.Requests.{fields_of, Begins}
use Rattle.csp_cmp.specs.Reading.{need_of, read_as}

-- four bytes are written as the number is that they are read as
four : (a b c d : ℕ) → a < 256 → b < 256 → c < 256 → d < 256 → to_be_bytes w32 (from_be_bytes w32 (a ∷ b ∷ c ∷ d ∷ [])) ≡ a ∷ b ∷ c ∷ d ∷ []
four a b c d p q r s = be_bytes_4 (a ∷ b ∷ c ∷ d ∷ []) _ refl each refl
  where
    each : (i : ℕ) → get_or (a ∷ b ∷ c ∷ d ∷ []) i 0 < 256
    each zero = p
    each (suc zero) = q
    each (suc (suc zero)) = r
    each (suc (suc (suc zero))) = s
    each (suc (suc (suc (suc i)))) = omega arith

-- what stands behind the type and the code is what is read, and more
peeked : (f : List ℕ) → ((i : ℕ) → get_or f i 0 < 256) → 5 ≤ length f → Begins f (fields_of (read_as Peek (0 ∷ 0 ∷ f)))
peeked (a ∷ b ∷ c ∷ d ∷ e ∷ rest) small h = let w = four a b c d (small 0) (small 1) (small 2) (small 3) in (rest, (cc))
peeked _ small h = absurd (omega arith)

poked : (f : List ℕ) → ((i : ℕ) → get_or f i 0 < 256) → need_of Poke (0 ∷ 0 ∷ f) ≤ suc (suc (length f)) → Begins f (fields_of (read_as Poke (0 ∷ 0 ∷ f)))
poked (a ∷ b ∷ c ∷ d ∷ e ∷ rest) small h =
    let len : length (take e rest) ≡ e = rw length-take (omega arith) in
    let w = four a b c d (small 0) (small 1) (small 2) (small 3) in
    let all : take e rest ++ drop e rest ≡ rest = take-append-drop e rest in
    (drop e rest, (cc))
poked _ small h = absurd (omega arith)

clocked : (f : List ℕ) → ((i : ℕ) → get_or f i 0 < 256) → 8 ≤ length f → Begins f (fields_of (read_as Clock (0 ∷ 0 ∷ f)))
clocked (a ∷ b ∷ c ∷ d ∷ e ∷ f ∷ g ∷ h ∷ rest) small fits =
    let w = four a b c d (small 0) (small 1) (small 2) (small 3) in
    let v = four e f g h (small 4) (small 5) (small 6) (small 7) in
    (rest, (cc))
clocked _ small fits = absurd (omega arith)

routed : (f : List ℕ) → 13 ≤ length f → Begins f (fields_of (read_as RouteSet (0 ∷ 0 ∷ f)))
routed (a ∷ b ∷ rest) h = (drop 11 rest, ap (λ xs. a ∷ b ∷ xs) (sym (take-append-drop 11 rest)))
routed _ h = absurd (omega arith)

-- what is read of whole bytes is all that they begin with, behind their type and their code
pub fields_read : (k n : ℕ) (f : List ℕ) (code : Code) → ((i : ℕ) → get_or f i 0 < 256) → need_of code (k ∷ n ∷ f) ≤ length (k ∷ n ∷ f) →
    Begins f (fields_of (read_as code (k ∷ n ∷ f)))
fields_read k n f Ident small h = (f, refl)
fields_read k n f RouteSet small h = routed f (omega arith)
fields_read k n f Stats small h = (drop 11 f, sym (take-append-drop 11 f))
fields_read k n f Peek small h = peeked f small (omega arith)
fields_read k n f Poke small h = poked f small h
fields_read k n f Clock small h = clocked f small (omega arith)

-- the same, with type and code
pub front_read : (bytes : List ℕ) (code : Code) → ((i : ℕ) → get_or bytes i 0 < 256) → need_of code bytes ≤ length bytes →
    Begins (drop 2 bytes) (fields_of (read_as code bytes))
front_read (k ∷ n ∷ f) code small h = fields_read k n f code (λ i. small (suc (suc i))) h
front_read [] Ident small h = absurd (omega arith)
front_read [] RouteSet small h = absurd (omega arith)
front_read [] Stats small h = absurd (omega arith)
front_read [] Peek small h = absurd (omega arith)
front_read [] Poke small h = absurd (omega arith)
front_read [] Clock small h = absurd (omega arith)
front_read (k ∷ []) Ident small h = absurd (omega arith)
front_read (k ∷ []) RouteSet small h = absurd (omega arith)
front_read (k ∷ []) Stats small h = absurd (omega arith)
front_read (k ∷ []) Peek small h = absurd (omega arith)
front_read (k ∷ []) Poke small h = absurd (omega arith)
front_read (k ∷ []) Clock small h = absurd (omega arith)
