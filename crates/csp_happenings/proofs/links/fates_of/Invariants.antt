use Rattle.std.proofs.Common.{◌≡◌, ℕ, drop}
use Rattle.csp_link.specs.Fates.{fate_of}
use Rattle.csp_happenings.specs.Remembering.{fate_in}
use Rattle.csp_happenings.proofs.Plans.{fate_after}
use Rattle.csp_happenings.proofs.links.fates_of.Given as goal

-- what the map says of each frame, with the faults that are still to come, is what the plan says
abbrev pub invariant-loop-fault : goal.invariant-loop-fault
invariant-loop-fault l = (dir frame : ℕ) → fate_after dir frame (fate_in l.fates dir frame) (drop l.fault-index l.plan) ≡ fate_of dir frame l.plan
