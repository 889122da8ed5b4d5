use Rattle.std.proofs.Common.{◌≡◌, [], take}
use Rattle.std.specs.List.{flat_map}
use Rattle.csp_ports.specs.Held.{slot_buffers}
use Rattle.csp_ports.proofs.held.take_held.Given as goal

abbrev pub invariant-loop-slot : goal.invariant-loop-slot
invariant-loop-slot l = (l.slots ≡ l.fn.slots) × (flat_map slot_buffers (take l.slot-index l.fn.slots) ≡ [])
