use Rattle.std.proofs.Common.{◌≡◌, take}
use Rattle.csp_scene.specs.Links.{fault_count}
use Rattle.csp_scene.proofs.faults.fault_count.Given as goal

abbrev pub invariant-loop-link : goal.invariant-loop-link
invariant-loop-link l = l.count ≡ fault_count (take l.link-index l.links)
