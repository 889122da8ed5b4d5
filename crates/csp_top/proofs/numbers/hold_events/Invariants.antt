use Rattle.std.specs.List.{AllWithin}
use Rattle.csp_top.specs.Prefix.{OpensNumbered}
use Rattle.csp_top.proofs.numbers.hold_events.Given as goal

-- so it is in the events so far
abbrev pub invariant-loop-event : goal.invariant-loop-event
invariant-loop-event l = AllWithin OpensNumbered l.events 0 l.event-index
