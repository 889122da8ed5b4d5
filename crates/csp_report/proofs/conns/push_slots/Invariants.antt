use Rattle.std.proofs.Common.{◌≡◌, ◌++◌, drop}
use Rattle.std.specs.List.{flat_map}
use Rattle.std.specs.String.{string_bytes}
use Rattle.csp_record.specs.Traffic.{payloads_on}
use Rattle.csp_report.specs.Lines.{text_of}
use Rattle.csp_report.specs.Conns.{slot_lines}
use Rattle.csp_report.proofs.conns.push_slots.Given as goal

-- the text so far, then the lines that are still to come, are those of all these slots
abbrev pub invariant-loop-slot : goal.invariant-loop-slot
invariant-loop-slot l =
    string_bytes l.out ++ text_of (flat_map (slot_lines l.talk.nodes.now l.talk.node.now l.talk.app.now (record { sent_on = payloads_on l.talk.sent; took_on = payloads_on l.talk.took; told = l.talk.told.items }) l.openings) (drop l.slot-index l.slots))
    ≡ string_bytes l.initial.out ++ text_of (flat_map (slot_lines l.talk.nodes.now l.talk.node.now l.talk.app.now (record { sent_on = payloads_on l.talk.sent; took_on = payloads_on l.talk.took; told = l.talk.told.items }) l.openings) l.slots)
