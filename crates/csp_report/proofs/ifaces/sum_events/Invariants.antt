use Rattle.std.proofs.Common.{◌≡◌, take, sum_by}
use Rattle.csp_report.specs.Ifaces.{weight}
use Rattle.csp_report.proofs.ifaces.sum_events.Given as goal

-- the sum so far
abbrev pub invariant-loop-event : goal.invariant-loop-event
invariant-loop-event l = l.sum ≡ sum_by (weight l.which) (take l.event-index l.events)
