use Rattle.std.proofs.Common.{◌==◌, ◌&&◌, [], ◌∷◌, get_or, take}
use Rattle.std.specs.Prelude.{if◌then◌else◌}
use Rattle.std.specs.List.{flat_map}
use Rattle.csp_record.specs.Payloads.{is_on}
use Rattle.csp_record.specs.Traffic.{Gains}
use Rattle.csp_record.proofs.payloads.add_told.Given as goal

-- the payload was added for the events so far
abbrev pub invariant-loop-event : goal.invariant-loop-event
invariant-loop-event l = Gains l.initial.table.entries l.table.entries (λ s o. flat_map (λ e. if is_on l.way s e && get_or l.ends s 0 == o then l.payload ∷ [] else []) (take l.event-index l.events))
