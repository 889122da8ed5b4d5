use Rattle.std.proofs.Common.{◌≡◌, ◌++◌, drop, map}
use Rattle.std.specs.List.{AllByRecursion}
use Rattle.csp_topology.proofs.parties.push_apps.Given as goal
use Rattle.csp_topology.specs.Opening.{CanOpen, opening_of}
use Rattle.csp_topology.specs.Parties.{apps_from}

-- the parties so far, then the applications that are still to come, are all
abbrev pub invariant-loop-number : goal.invariant-loop-number
invariant-loop-number l = record {
  parties : map opening_of l.openings.items ++ apps_from l.place l.number (drop l.number l.app-items) ≡ map opening_of l.fn.openings.items ++ apps_from l.place 0 l.app-items;
  ready : AllByRecursion CanOpen l.openings.items;
}
