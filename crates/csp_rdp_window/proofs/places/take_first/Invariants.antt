use Rattle.std.proofs.Common.{◌≡◌, [], take}
use Rattle.csp_rdp_window.specs.Places.{held_in}
use Rattle.csp_rdp_window.proofs.places.take_first.Given as goal

abbrev pub invariant-loop-place : goal.invariant-loop-place
invariant-loop-place g l = (l.places ≡ l.fn.places) × (held_in (take l.place-index l.fn.places) ≡ [])
