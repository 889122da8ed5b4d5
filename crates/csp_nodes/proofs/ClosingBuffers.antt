-- The buffers of a node at its opening.
use Rattle.std.proofs.Common.{◌≡◌, ℕ, List, [], ◌∷◌, length, map, ap, refl, ◌∙◌}
use Rattle.std.specs.List.{range_with_len}
use Rattle.std.proofs.lemmas.List.{length-map}
use Rattle.std.proofs.lemmas.List.Elements.{All-map}
use Rattle.std.proofs.lemmas.List.FromFn.{length-range_with_len}
use Rattle.csp_arena.specs.Cells.{RegionName}
use Rattle.csp_buffer.specs.Content.{cleared}
use Rattle.csp_buffer.specs.Memory.{PlainMemory, AreAllOf, fresh, fresh_all}
use Rattle.csp_buffer.specs.PlainBuffer.{PlainBuffer}
use Rattle.csp_lists.specs.Gathered.{pictures}
use Rattle.csp_nodes.specs.Fresh.{fresh_buffers}

-- the buffers of a memory are of its region, with nothing in them, and as many as it has
pub all_fresh : (m : PlainMemory) → AreAllOf m.region (fresh_all m)
all_fresh m = All-map (λ (b : PlainBuffer). b.region ≡ m.region) (fresh m.region) (range_with_len 0 m.count) (λ k d h. refl)

pictures_of : (r : RegionName) (ns : List ℕ) → pictures (map (fresh r) ns) ≡ map cleared ns
pictures_of r [] = refl
pictures_of r (n ∷ ns) = ap (λ cs. cleared n ∷ cs) (pictures_of r ns)

pub fresh_pictures : (m : PlainMemory) → pictures (fresh_all m) ≡ fresh_buffers m.count
fresh_pictures m = pictures_of m.region (range_with_len 0 m.count)

pub fresh_long : (m : PlainMemory) → length (fresh_all m) ≡ m.count
fresh_long m = length-map (range_with_len 0 m.count) (fresh m.region) ∙ length-range_with_len 0 m.count

-- they are as many as they should be
pub fresh_len : (n : ℕ) → length (fresh_buffers n) ≡ n
fresh_len n = length-map (range_with_len 0 n) cleared ∙ length-range_with_len 0 n
