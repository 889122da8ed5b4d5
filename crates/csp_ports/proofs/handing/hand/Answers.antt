use Rattle.std.specs.Option.{option_to_list}
use Rattle.std.proofs.Common.{List, ◌∷◌, ◌++◌, ap, sym, ◌∙◌}
use Rattle.csp_buffer.specs.Content.{Content}
use Rattle.csp_deck.specs.Keeping.{with_contents}
use Rattle.csp_deck.specs.Regions.{nowhere}
use Rattle.csp_log.specs.declared.event.Event.{Event}
use Rattle.csp_ports.proofs.Letting.{hand_room, pictures_placed}
use Rattle.csp_ports.proofs.Tasking.{back_events, back_pictures, hand_size}
use Rattle.csp_ports.specs.Came.{pictures}
use Rattle.csp_ports.specs.Packets.{handing_event, stray_events}
use Rattle.csp_ports.specs.PlainPorts.{anywhere}
use Rattle.csp_rdp.specs.Changes.{change_between}
use Rattle.csp_rdp.specs.Holding.{rdp_numbers, rested, unneeded}
use Rattle.csp_rdp.specs.Machine.{PlainRdp}
use Rattle.csp_rdp.specs.Placed.{placed}
use Rattle.csp_rdp.specs.Table.{back_of, after_packet as handed, is_stray, row_of}
use Rattle.csp_rdp.specs.declared.answers.Cause.TheVariants as machine_why
use Rattle.csp_rdp.specs.declared.rows.StateRow.{StateRow}
use Rattle.csp_ports.proofs.handing.hand.Goals as goal

pub let_go-requires-clause-of_it : goal.let_go-requires-clause-of_it
let_go-requires-clause-of_it c =
    rw (c.hand_back.ensures.trash, c.handed-back.ensures.state)
    (c.keeps_region.ensures.handed c.args.trash.now.region c.args.head c.trace-tag.result.tag c.args.packet c.args.now c.args.machine.now c.requires.housed.region c.requires.of_it)

pub let_go-requires-clause-whole : goal.let_go-requires-clause-whole
let_go-requires-clause-whole c =
    rw c.handed-back.ensures.state
    (c.keeps_whole.ensures.handed c.args.head c.trace-tag.result.tag c.args.packet c.args.now c.args.machine.now c.requires.housed.whole)

pub let_go-requires-clause-room : goal.let_go-requires-clause-room
let_go-requires-clause-room c =
    let r = c.handed-back.new.self in
    rw c.hand_back.ensures.trash
    (hand_room r (rdp_numbers c.args.machine.now) c.handed-back.result.back c.args.packet.picture.number c.args.trash.now.contents c.args.trash.now.room
    (rw (c.handed-back.ensures.state, c.handed-back.ensures.back) (c.conserves.ensures.handed c.args.head c.trace-tag.result.tag c.args.packet c.args.now c.args.machine.now c.requires.housed.whole))
    (c.conserves.ensures.parted r)
    c.requires.room)

pub returns-clause-machine : goal.returns-clause-machine
returns-clause-machine c =
    let r = c.args.machine.now in
    let tag = c.args.packet.picture.trace.tag in
    rw (c.let_go.ensures.machine, c.handed-back.ensures.state, c.trace-tag.ensures)
    (c.sees_no_region.ensures.rested nowhere (handed c.args.head tag c.args.packet c.args.now r) ∙ ap rested (c.sees_no_region.ensures.handed nowhere c.args.head tag c.args.packet c.args.now r))

pub returns-clause-trash : goal.returns-clause-trash
returns-clause-trash c =
    let r = c.args.machine.now in
    let head = c.args.head in
    let packet = c.args.packet in
    let tag = packet.picture.trace.tag in
    let bytes = packet.picture.payload in
    let first = c.args.trash.now.contents in
    let seen = c.sees_no_region.ensures.handed nowhere head tag packet c.args.now r in
    let loose = sym (ap (λ (q : PlainRdp). pictures (unneeded q)) (sym seen) ∙ ap pictures (c.sees_no_region.ensures.unneeded nowhere (handed head tag packet c.args.now r)) ∙ pictures_placed nowhere (unneeded (handed head tag packet c.args.now r))) in
    let back = back_pictures nowhere (back_of (row_of r head bytes) packet) (back_of (row_of r head bytes) (anywhere packet.picture)) (c.sees_no_region.ensures.back nowhere (row_of r head bytes) packet) in
    let same = ap (λ (w : StateRow). pictures (option_to_list (back_of w (anywhere packet.picture)))) (sym (c.sees_no_region.ensures.row nowhere head bytes r)) in
    rw (c.let_go.ensures.trash, c.hand_back.ensures.trash, c.handed-back.ensures.back, c.handed-back.ensures.state, c.trace-tag.ensures)
    (ap (with_contents c.args.trash.now)
    (ap (λ (us : List Content). (first ++ us) ++ pictures (unneeded (handed head tag packet c.args.now r))) (back ∙ same)
    ∙ ap (λ (us : List Content). (first ++ pictures (option_to_list (back_of (row_of (placed nowhere r) head bytes) (anywhere packet.picture)))) ++ us) loose))

pub returns-clause-size : goal.returns-clause-size
returns-clause-size c =
    let r = c.handed-back.new.self in
    rw (c.let_go.ensures.trash, c.let_go.ensures.machine, c.hand_back.ensures.trash)
    (hand_size r (rdp_numbers c.args.machine.now) c.handed-back.result.back c.args.packet.picture.number c.args.trash.now.contents
    (rw (c.handed-back.ensures.state, c.handed-back.ensures.back) (c.conserves.ensures.handed c.args.head c.trace-tag.result.tag c.args.packet c.args.now c.args.machine.now c.requires.housed.whole))
    (c.conserves.ensures.parted r))

pub returns-clause-change : goal.returns-clause-change
returns-clause-change c =
    let r = c.args.machine.now in
    let tag = c.args.packet.picture.trace.tag in
    rw (c.handed-back.ensures.change, c.handed-back.ensures.state, c.trace-tag.ensures)
    (ap (λ (q : PlainRdp). change_between r.state q.state machine_why.Reset) (c.sees_no_region.ensures.handed nowhere c.args.head tag c.args.packet c.args.now r))

pub returns-clause-report : goal.returns-clause-report
returns-clause-report c =
    let r = c.args.machine.now in
    let packet = c.args.packet in
    let row = row_of r c.args.head packet.picture.payload in
    rw (c.hand_back.ensures.report, c.push.ensures.items, c.requires.report, c.nth.ensures, c.peer.ensures, c.cur.ensures, c.una.ensures, c.handed-back.ensures.back, c.handed-back.ensures.stray, c.trace-tag.ensures)
    (ap (λ (es : List Event). handing_event r packet.picture.trace.tag ∷ es)
    (back_events nowhere (is_stray row) (back_of row packet) (back_of row (anywhere packet.picture)) (c.sees_no_region.ensures.back nowhere row packet)
    ∙ ap (λ (w : StateRow). stray_events (back_of w (anywhere packet.picture)) (is_stray w)) (sym (c.sees_no_region.ensures.row nowhere c.args.head packet.picture.payload r))))
