use Rattle.std.proofs.Common.{◌≡◌, drop}
use Rattle.std.specs.List.{fold}
use Rattle.csp_link.specs.Fates.{joined, fates_of}
use Rattle.csp_hub.proofs.fates.Fates.open.Given as goal

abbrev pub invariant-loop-fault : goal.invariant-loop-fault
invariant-loop-fault l = fold (joined l.number) l.fates (drop l.fault-index l.plan) ≡ fates_of l.number l.plan
