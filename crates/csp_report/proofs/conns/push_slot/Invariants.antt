use Rattle.std.proofs.Common.{◌≡◌, ◌++◌, drop}
use Rattle.std.specs.String.{string_bytes}
use Rattle.csp_record.specs.Traffic.{payloads_on}
use Rattle.csp_report.specs.Lines.{text_of}
use Rattle.csp_report.specs.Conns.{slot_lines}
use Rattle.csp_report.proofs.conns.push_slot.Given as goal

-- the text so far, then the lines that are still to come, are those of all these openings
abbrev pub invariant-loop-opening : goal.invariant-loop-opening
invariant-loop-opening l =
    string_bytes l.out ++ text_of (slot_lines l.talk.nodes.now l.talk.node.now l.talk.app.now (record { sent_on = payloads_on l.talk.sent; took_on = payloads_on l.talk.took; told = l.talk.told.items }) (drop l.opening-index l.openings) l.slot)
    ≡ string_bytes l.initial.out ++ text_of (slot_lines l.talk.nodes.now l.talk.node.now l.talk.app.now (record { sent_on = payloads_on l.talk.sent; took_on = payloads_on l.talk.took; told = l.talk.told.items }) l.openings l.slot)
