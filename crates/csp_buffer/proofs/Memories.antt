-- Buffers and the cells that they are made of, list for list.
use Rattle.std.proofs.Common.{◌≡◌, ℕ, ◌+◌, List, [], ◌∷◌, ◌++◌, cond, ◌==◌, refl, sym, ap, ◌∙◌, map, reverse, length, All}
use Rattle.std.specs.List.{range_with_len}
use Rattle.std.proofs.lemmas.List.{length-replicate, map-append, reverse-append, append_assoc}
use Rattle.std.proofs.lemmas.List.Elements.{All-nil, All-cons, All-head, All-tail, All-push, All-map}
use Rattle.std.proofs.lemmas.List.FromFn.{length-map-range_with_len}
use Rattle.std.proofs.lemmas.List.Sorted.{IsPermutation-reverse, All-permutation, length_permutation, sum_by-IsPermutation}
use Rattle.csp_arena.specs.Cells.{RegionName, PlainRegion, PlainCell, AreOf, HasEachOnce, blank, blank_cells, numbers}
use Rattle.csp_base.specs.declared.limits.TheConstants.{MAX_PAYLOAD}
use Rattle.csp_buffer.specs.Memory.{AreAllOf, HaveEachOnce, fresh}
use Rattle.csp_buffer.specs.PlainBuffer.{PlainBuffer, IsBufferCell, buffer_of}

-- the cells of a new region are fit for buffers, in whatever order they come
pub blank_fit : (r : PlainRegion) (cells reversed : List PlainCell) → r.name.size ≡ MAX_PAYLOAD + 4 → cells ≡ blank_cells r → reversed ≡ reverse cells → All IsBufferCell reversed
blank_fit r cells reversed size is turned = rw (turned, is) (
    All-permutation IsBufferCell (blank_cells r) (reverse (blank_cells r)) (IsPermutation-reverse (blank_cells r)) (
    All-map IsBufferCell (blank r.name) (range_with_len 0 r.cells) (λ k d h. length-replicate r.name.size 0 ∙ size)))

-- as many as the region has
pub blank_long : (r : PlainRegion) (cells reversed : List PlainCell) → cells ≡ blank_cells r → reversed ≡ reverse cells → length reversed ≡ r.cells
blank_long r cells reversed is turned = rw (turned, is) (
    length_permutation (blank_cells r) (reverse (blank_cells r)) (IsPermutation-reverse (blank_cells r)) ∙ length-map-range_with_len (blank r.name) 0 r.cells)

-- the buffers that they make
pub made_fresh : (name : RegionName) (ns : List ℕ) → map buffer_of (map (blank name) ns) ≡ map (fresh name) ns
made_fresh name [] = refl
made_fresh name (n ∷ ns) = ap (λ l. fresh name n ∷ l) (made_fresh name ns)

-- the cells that come last first have the numbers that the buffers have
pub each_once_back : (n : ℕ) (buffers : List PlainBuffer) (cells : List PlainCell) → numbers cells ≡ reverse (map (λ b. b.picture.number) buffers) → HaveEachOnce n buffers → HasEachOnce n (numbers cells)
each_once_back n buffers cells is once k = rw is (
    sum_by-IsPermutation (λ m. cond (m == k) 1 0) _ _ (IsPermutation-reverse (map (λ b. b.picture.number) buffers)) ∙ once k)

-- what holds of each of a list and one more holds of each of the list, and of that one
split_last : {X : Type 0} (P : X → Type 0) (xs : List X) (y : X) → All P (xs ++ y ∷ []) → All P xs × P y
split_last P [] y all = (All-nil P, All-head P y [] all)
split_last P (x ∷ xs) y all =
    let rest = split_last P xs y (All-tail P x (xs ++ y ∷ []) all) in
    (All-cons P x xs (All-head P x (xs ++ y ∷ []) all) rest.0, rest.1)

-- one buffer goes from the end of the list to the end of the cells
pub one_back : (buffers left : List PlainBuffer) (b : PlainBuffer) (cells next : List PlainCell) (cell : PlainCell) (all : List ℕ) → buffers ≡ left ++ b ∷ [] → next ≡ cells ++ cell ∷ [] → cell.number ≡ b.picture.number → numbers cells ++ reverse (map (λ b. b.picture.number) buffers) ≡ all → numbers next ++ reverse (map (λ b. b.picture.number) left) ≡ all
one_back buffers left b cells next cell all pops pushes same before =
    ap (λ l. numbers l ++ reverse (map number left)) pushes
    ∙ ap (λ l. l ++ reverse (map number left)) (map-append (λ c. c.number) cells (cell ∷ []))
    ∙ append_assoc (numbers cells) (cell.number ∷ []) (reverse (map number left))
    ∙ ap (λ n. numbers cells ++ (n ∷ reverse (map number left))) same
    ∙ ap (λ l. numbers cells ++ l) (sym (ap reverse (map-append number left (b ∷ [])) ∙ reverse-append (map number left) (number b ∷ [])))
    ∙ ap (λ l. numbers cells ++ reverse (map number l)) (sym pops)
    ∙ before
  where
    number : PlainBuffer → ℕ
    number b = b.picture.number

pub one_of_it : (r : RegionName) (buffers left : List PlainBuffer) (b : PlainBuffer) (cells next : List PlainCell) (cell : PlainCell) → buffers ≡ left ++ b ∷ [] → next ≡ cells ++ cell ∷ [] → cell.region ≡ b.region → AreAllOf r buffers → AreOf r cells → AreAllOf r left × AreOf r next
one_of_it r buffers left b cells next cell pops pushes same all before =
    let parts = split_last (λ b. b.region ≡ r) left b (rw pops at all) in
    (parts.0, rw pushes (All-push (λ c. c.region ≡ r) cells cell before (same ∙ parts.1)))
