-- The buffers of a memory are of its region.
use Rattle.std.proofs.Common.{◌≡◌, List, sym, subst}
use Rattle.std.specs.List.{range_with_len}
use Rattle.std.proofs.lemmas.List.Elements.{All-map}
use Rattle.csp_arena.specs.Cells.{RegionName}
use Rattle.csp_buffer.specs.Memory.{PlainMemory, fresh, fresh_all, AreAllOf}
use Rattle.csp_buffer.specs.PlainBuffer.{PlainBuffer}

pub all_fresh : (m : PlainMemory) (r : RegionName) (bs : List PlainBuffer) → bs ≡ fresh_all m → r ≡ m.region → AreAllOf r bs
all_fresh m r bs e same = subst (AreAllOf r) (sym e) (All-map (λ (b : PlainBuffer). b.region ≡ r) (fresh m.region) (range_with_len 0 m.count) (λ k d below. sym same))
