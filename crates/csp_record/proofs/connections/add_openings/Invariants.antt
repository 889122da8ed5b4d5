use Rattle.std.proofs.Common.{◌≡◌, ◌++◌, get_or, take}
use Rattle.std.specs.List.{flat_map}
use Rattle.csp_record.specs.Connections.{opened_by}
use Rattle.csp_record.proofs.connections.add_openings.Given as goal

-- what the events so far tell was appended
abbrev pub invariant-loop-event : goal.invariant-loop-event
invariant-loop-event l = l.list.items ≡ l.initial.list.items ++ flat_map (opened_by l.app (λ slot. get_or l.ends slot 0)) (take l.event-index l.events)
