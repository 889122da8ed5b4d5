use Rattle.std.proofs.Common.{◌≡◌, map, vec_len, vec_capacity}
use Rattle.std.specs.List.{range_with_len}
use Rattle.csp_hub.specs.PlainHub.{opening_end}
use Rattle.csp_hub.proofs.hub.open_ends.Given as goal

abbrev pub invariant-loop-number : goal.invariant-loop-number
invariant-loop-number l = (l.ends.items ≡ map (opening_end l.plan) (range_with_len 0 l.number)) × (vec_len l.ends ≡ l.number) × (vec_capacity l.ends ≡ l.count)
