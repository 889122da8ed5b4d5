use Rattle.std.proofs.Common.{◌≡◌, ◌++◌, drop}
use Rattle.csp_happenings.specs.Happenings.{at, reported}
use Rattle.csp_happenings.proofs.telling.tell_events.Given as goal

-- what was told so far, with what is still to come, is what all these events tell
abbrev pub invariant-loop-event : goal.invariant-loop-event
invariant-loop-event l =
    l.list.items ++ reported (at l.turn.time l.turn.who) l.again l.packet (drop l.event-index l.events)
    ≡ l.initial.list.items ++ reported (at l.turn.time l.turn.who) l.again l.packet l.events
