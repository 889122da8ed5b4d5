use Rattle.std.proofs.Common.{◌≡◌, ◌++◌, map, take, drop}
use Rattle.std.specs.Option.{option_map}
use Rattle.csp_rdp_window.specs.Sending.{marked}
use Rattle.csp_rdp_window.proofs.send.mark_all.Given as goal

abbrev pub invariant-loop-place : goal.invariant-loop-place
invariant-loop-place l = l.places ≡ map (option_map (marked l.mark)) (take l.place-index l.fn.places) ++ drop l.place-index l.fn.places
