-- the buffers of a memory as it opens them
use Rattle.std.proofs.Common.{◌≡◌, ℕ, List, [], ◌∷◌, length, map, refl, ap, ◌∙◌, sym}
use Rattle.std.specs.Prelude.{◌==◌}
use Rattle.std.specs.List.{count_by, range_with_len}
use Rattle.std.proofs.lemmas.List.{length-map}
use Rattle.std.proofs.lemmas.List.Elements.{All-map}
use Rattle.std.proofs.lemmas.List.FromFn.{length-range_with_len}
use Rattle.csp_arena.specs.Cells.{RegionName}
use Rattle.csp_buffer.specs.Content.{Content}
use Rattle.csp_buffer.specs.Memory.{PlainMemory, AreAllOf, HaveEachOnce, fresh, fresh_all}
use Rattle.csp_buffer.specs.PlainBuffer.{PlainBuffer}
use Rattle.csp_lists.specs.Gathered.{pictures}

-- they are as many as it has
pub fresh_long : (m : PlainMemory) → length (pictures (fresh_all m)) ≡ m.count
fresh_long m = length-map (fresh_all m) (λ b. b.picture) ∙ length-map (range_with_len 0 m.count) (fresh m.region) ∙ length-range_with_len 0 m.count

-- with their pictures, in whatever buffers of the region, there are as many
pub back_long : (m : PlainMemory) (bs : List PlainBuffer) → pictures bs ≡ pictures (fresh_all m) → length bs ≡ m.count
back_long m bs e = sym (length-map bs (λ b. b.picture)) ∙ ap length e ∙ fresh_long m
