use Rattle.std.proofs.Common.{map, reverse, arith, rules, sym, ap, ◌∙◌}
use Rattle.std.specs.List.{range_with_len}
use Rattle.std.proofs.lemmas.List.{reverse-reverse}
use Rattle.csp_buffer.specs.PlainBuffer.{buffer_of}
use Rattle.csp_buffer.proofs.Memories.{blank_fit, blank_long, made_fresh}
use Rattle.csp_buffer.proofs.memory.Memory.open.Goals as goal

pub fill-requires-clause-fit : goal.fill-requires-clause-fit
fill-requires-clause-fit c = blank_fit c.in-Ok.region c.in-Ok.cells.items _ c.in-Ok.ensures.region.2 c.in-Ok.ensures.cells c.reverse.ensures.items

pub fill-requires-clause-room : goal.fill-requires-clause-room
fill-requires-clause-room c = grind (arith, rules, blank_long c.in-Ok.region c.in-Ok.cells.items c.reverse.new.self.items c.in-Ok.ensures.cells c.reverse.ensures.items, c.in-Ok.ensures.region)

pub invariant_of-result : goal.invariant_of-result
invariant_of-result c = (c.fill.ensures.cells, c.fill.ensures.capacity ∙ c.reverse.ensures.capacity ∙ c.in-Ok.ensures.room ∙ sym c.in-Ok.ensures.region.0)

pub returns-in-Ok-clause-buffers : goal.returns-in-Ok-clause-buffers
returns-in-Ok-clause-buffers c =
    c.fill.ensures.buffers
    ∙ ap (λ l. map buffer_of (reverse l)) (c.reverse.ensures.items)
    ∙ ap (map buffer_of) (reverse-reverse c.in-Ok.cells.items ∙ c.in-Ok.ensures.cells)
    ∙ made_fresh c.in-Ok.region.name (range_with_len 0 c.in-Ok.region.cells)
