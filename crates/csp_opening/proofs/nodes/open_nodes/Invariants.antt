use Rattle.std.proofs.Common.{◌≡◌, length, map, take, vec_len, vec_capacity}
use Rattle.std.specs.List.{AllByRecursion}
use Rattle.csp_opening.specs.Opened.{AreNodesWith, CanLeave}
use Rattle.csp_opening.proofs.nodes.open_nodes.Given as goal

-- the nodes so far
abbrev pub invariant-loop-place : goal.invariant-loop-place
invariant-loop-place g l = record {
  opened : AreNodesWith (take l.place l.nodes) (take l.place (map (λ ws. ws.items) l.wires)) l.opened.items;
  leave : AllByRecursion CanLeave l.opened.items;
  room : vec_len l.opened ≡ l.place;
  capacity : vec_capacity l.opened ≡ length l.nodes;
}
