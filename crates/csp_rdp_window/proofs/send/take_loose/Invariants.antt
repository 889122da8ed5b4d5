use Rattle.std.proofs.Common.{◌≡◌, None, take}
use Rattle.std.specs.List.{find}
use Rattle.csp_rdp_window.specs.Places.{held_in}
use Rattle.csp_rdp_window.specs.Sending.{is_loose}
use Rattle.csp_rdp_window.proofs.send.take_loose.Given as goal

abbrev pub invariant-loop-place : goal.invariant-loop-place
invariant-loop-place l = (l.places ≡ l.fn.places) × (find is_loose (held_in (take l.place-index l.fn.places)) ≡ None)
