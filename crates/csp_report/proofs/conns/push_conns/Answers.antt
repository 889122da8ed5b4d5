use Rattle.std.proofs.Common.{◌++◌, filter, ap, ◌∙◌}
use Rattle.std.specs.List.{flat_map}
use Rattle.std.specs.String.{string_bytes}
use Rattle.csp_record.specs.Connections.{openings}
use Rattle.csp_record.specs.Traffic.{payloads_on}
use Rattle.csp_log.specs.PlainLog.{all_events}
use Rattle.csp_report.specs.Blobs.{is_of_blobs, collected_lines}
use Rattle.csp_report.specs.Lines.{text_of}
use Rattle.csp_report.specs.Conns.{Traffics, slot_lines, all_slots, traffic_of}
use Rattle.csp_report.proofs.BlobLines.{collected_kept}
use Rattle.csp_report.proofs.ConnLines.{same_slots}
use Rattle.csp_report.proofs.conns.push_conns.Goals as goal

pub returns : goal.returns
returns c =
    let nodes = c.args.nodes.now in
    let node = c.args.node.now in
    let app = c.args.app.now in
    let router = c.args.router.now.entries in
    let found : Traffics = record { sent_on = payloads_on c.in_ok-sent.field-0; took_on = payloads_on c.in_ok-took.field-0; told = c.in_ok-of_blobs.field-0.items } in
    c.in_ok-push_slots.ensures
    ∙ ap (λ opened. string_bytes c.args.out.now ++ text_of (flat_map (slot_lines nodes node app found opened) all_slots)) (c.as_slice.ensures.value ∙ c.in_ok-opened.ensures)
    ∙ ap (λ lines. string_bytes c.args.out.now ++ text_of lines)
    (same_slots nodes node app found (traffic_of c.args.number router c.args.own.now.entries) c.in_ok-sent.ensures c.in_ok-took.ensures
    (λ slot ordinal. ap (collected_lines node app slot ordinal) (c.in_ok-of_blobs.ensures ∙ ap (filter is_of_blobs) c.all_events.ensures) ∙ collected_kept node app slot ordinal (all_events c.args.own.now.entries)) (openings c.args.number router) all_slots)
