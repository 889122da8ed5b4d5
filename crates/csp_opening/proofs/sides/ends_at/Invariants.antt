use Rattle.std.proofs.Common.{◌≡◌, ◌≤◌, ◌*◌, take}
use Rattle.std.specs.List.{sum_by}
use Rattle.csp_opening.specs.Handed.{ends_among}
use Rattle.csp_opening.proofs.sides.ends_at.Given as goal

abbrev pub invariant-loop-here : goal.invariant-loop-here
invariant-loop-here l = record {
  count : l.count ≡ sum_by (λ ws. ends_among l.place ws.items) (take l.here-index l.wires);
  low : l.count ≤ 512 * l.here-index;
}
