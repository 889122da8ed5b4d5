-- Cells in order of their numbers, and where they lie.
use Rattle.std.proofs.Common.{◌≡◌, ℕ, ◌+◌, ◌*◌, List, [], ◌∷◌, ◌++◌, length, drop, get_or, suc, refl, sym, ap, ap₂, ◌∙◌, arith, length-append, Some}
use Rattle.std.specs.List.{range_with_len}
use Rattle.std.proofs.lemmas.List.{map-append, length-map}
use Rattle.std.proofs.lemmas.List.Elements.{All-pop}
use denote.RawPtr.{Ptr, block_ptr, block_of, ◌+ₚ◌}
use Rattle.bytes.specs.Ownership.{IsPlaced}
use Rattle.csp_arena.specs.Cells.{RegionName, PlainCell, AreOf, numbers}
use Rattle.csp_arena.specs.Places.{name_at, place_of}

-- a list that is a range ends with its last number
last_in_range : (a : ℕ) (ns : List ℕ) (n : ℕ) → ns ++ n ∷ [] ≡ range_with_len a (suc (length ns)) → (ns ≡ range_with_len a (length ns)) × (n ≡ a + length ns)
last_in_range a [] n e = (refl, omega (arith, ap (λ l. get_or l 0 0) e))
last_in_range a (m ∷ ns) n e =
    let rest = last_in_range (a + 1) ns n (ap (drop 1) e) in
    (ap₂ (λ k l. k ∷ l) (ap (λ l. get_or l 0 0) e) rest.0, omega (arith, rest.1))

-- the cell after one lies where it ends
pub place_next : (name : RegionName) (k : ℕ) → place_of name (k + 1) ≡ place_of name k +ₚ name.size
place_next name k = ap (block_ptr name.block) (grind arith)

-- what follows n cells of s bytes from p on
pub place_after : (p : Ptr) (n s : ℕ) → IsPlaced p → p +ₚ n * s ≡ place_of (name_at p 0 s) n
place_after p n s placed = ap (λ q. q +ₚ n * s) placed ∙ ap (block_ptr (block_of p)) (grind arith)

-- the first cell lies where the region starts
pub place_first : (p : Ptr) (s : ℕ) → IsPlaced p → place_of (name_at p 0 s) 0 ≡ p
place_first p s placed = ap (block_ptr (block_of p)) (grind arith) ∙ sym placed

-- what is known of the last of some cells of a region, which stand in order
pub record IsLast (name : RegionName) (cells rest : List PlainCell) (last : PlainCell) : Type 0 where
  pub of_it : AreOf name rest
  pub in_order : numbers rest ≡ range_with_len 0 (length rest)
  pub region : last.region ≡ name
  pub number : last.number ≡ length rest
  pub count : length cells ≡ length rest + 1

pub popped : (name : RegionName) (cells rest : List PlainCell) (last : PlainCell) → cells ≡ rest ++ last ∷ [] → AreOf name cells → numbers cells ≡ range_with_len 0 (length cells)
    → IsLast name cells rest last
popped name cells rest last is of_it order =
    let parts = All-pop (λ (c : PlainCell). c.region ≡ name) cells rest (Some last) is of_it in
    let count : length cells ≡ length rest + 1 = ap length is ∙ length-append rest (last ∷ []) in
    let same : length (numbers rest) ≡ length rest = length-map rest (λ (c : PlainCell). c.number) in
    let long : length cells ≡ suc (length (numbers rest)) = omega (arith, count, same) in
    let ends = last_in_range 0 (numbers rest) last.number
    (sym (map-append (λ (c : PlainCell). c.number) rest (last ∷ [])) ∙ sym (ap numbers is) ∙ order ∙ ap (range_with_len 0) long) in
    record {
      of_it = parts.0;
      in_order = ends.0 ∙ ap (range_with_len 0) same;
      region = parts.1;
      number = ends.1 ∙ omega (arith, same);
      count = count;
    }
