use Rattle.std.proofs.Common.{◌≡◌, ◌≤◌, length, take, vec_len, vec_capacity}
use Rattle.csp_opening.specs.Opened.{AreLanes, AreUnused}
use Rattle.csp_opening.proofs.lanes.Lanes.open.Given as goal

-- the lanes so far
abbrev pub invariant-loop-wire : goal.invariant-loop-wire
invariant-loop-wire g l = record {
  opened : AreLanes l.region.name (take l.wire-index l.wires) l.lanes;
  unused : AreUnused l.lanes.lanes.items l.lanes.rooms.items l.lanes.ends.items;
  lanes : vec_len l.lanes.lanes ≡ l.wire-index;
  rooms : vec_len l.lanes.rooms ≡ l.wire-index;
  ends : vec_len l.lanes.ends ≡ l.wire-index;
  lanes_room : length l.wires ≤ vec_capacity l.lanes.lanes;
  rooms_room : length l.wires ≤ vec_capacity l.lanes.rooms;
  ends_room : length l.wires ≤ vec_capacity l.lanes.ends;
}
