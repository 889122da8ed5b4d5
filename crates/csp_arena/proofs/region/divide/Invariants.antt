use Rattle.std.proofs.Common.{◌≡◌, ◌*◌, ◌-◌, map, replicate, vec_len, vec_capacity}
use Rattle.std.specs.List.{range_with_len}
use denote.RawPtr.{◌+ₚ◌}
use Rattle.csp_arena.specs.Cells.{blank}
use Rattle.csp_arena.specs.Places.{name_at}
use Rattle.csp_arena.proofs.region.divide.Given as goal

abbrev pub invariant-loop-number : goal.invariant-loop-number
invariant-loop-number l =
    (l.rest.ptr ≡ l.start +ₚ l.number * l.size) × (l.rest.items ≡ replicate ((l.cells - l.number) * l.size) 0)
    × (l.list.items ≡ map (blank (name_at l.start 0 l.size)) (range_with_len 0 l.number)) × (vec_len l.list ≡ l.number) × (vec_capacity l.list ≡ vec_capacity l.initial.list)
