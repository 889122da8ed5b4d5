use Rattle.std.proofs.Common.{length}
use Rattle.csp_stack.proofs.Resting.{served_room, serving}
use Rattle.csp_stack.proofs.turn.finish_plan.Goals as goal

pub finish_hear-requires-clause-sound : goal.finish_hear-requires-clause-sound
finish_hear-requires-clause-sound c =
    let place = rw c.in-Hear.is at c.requires.sound.place in
    serving c.args.facts.now c.args.state.now.state c.args.doing _ c.args.report.now.items c.requires.sound c.bounds.ensures place

pub returns-in-Hear-clause-room : goal.returns-in-Hear-clause-room
returns-in-Hear-clause-room c =
    let place = rw c.in-Hear.is at c.requires.sound.place in
    served_room c.args.facts.now c.args.state.now.state c.finish_hear.new.state.state (length c.args.facts.now.ifaces) _
    (serving c.args.facts.now c.args.state.now.state c.args.doing _ c.args.report.now.items c.requires.sound c.bounds.ensures place) c.finish_hear.ensures.keeps

pub finish_serve-requires-clause-sound : goal.finish_serve-requires-clause-sound
finish_serve-requires-clause-sound c =
    let place = rw c.in-Serve.is at c.requires.sound.place in
    serving c.args.facts.now c.args.state.now.state c.args.doing _ c.args.report.now.items c.requires.sound c.bounds.ensures place.0

pub returns-in-Serve-clause-room : goal.returns-in-Serve-clause-room
returns-in-Serve-clause-room c =
    let place = rw c.in-Serve.is at c.requires.sound.place in
    served_room c.args.facts.now c.args.state.now.state c.finish_serve.new.state.state (length c.args.facts.now.ifaces) _
    (serving c.args.facts.now c.args.state.now.state c.args.doing _ c.args.report.now.items c.requires.sound c.bounds.ensures place.0) c.finish_serve.ensures.keeps

pub finish_reply-requires-clause-sound : goal.finish_reply-requires-clause-sound
finish_reply-requires-clause-sound c =
    let place = rw c.in-Reply.is at c.requires.sound.place in
    serving c.args.facts.now c.args.state.now.state c.args.doing _ c.args.report.now.items c.requires.sound c.bounds.ensures place

pub returns-in-Reply-clause-room : goal.returns-in-Reply-clause-room
returns-in-Reply-clause-room c =
    let place = rw c.in-Reply.is at c.requires.sound.place in
    served_room c.args.facts.now c.args.state.now.state c.finish_reply.new.state.state (length c.args.facts.now.ifaces) _
    (serving c.args.facts.now c.args.state.now.state c.args.doing _ c.args.report.now.items c.requires.sound c.bounds.ensures place) c.finish_reply.ensures.keeps

pub finish_note-requires-clause-sound : goal.finish_note-requires-clause-sound
finish_note-requires-clause-sound c =
    let place = rw c.in-Tell.is at c.requires.sound.place in
    serving c.args.facts.now c.args.state.now.state c.args.doing _ c.args.report.now.items c.requires.sound c.bounds.ensures place.0

pub returns-in-Tell-clause-room : goal.returns-in-Tell-clause-room
returns-in-Tell-clause-room c =
    let place = rw c.in-Tell.is at c.requires.sound.place in
    served_room c.args.facts.now c.args.state.now.state c.finish_note.new.state.state (length c.args.facts.now.ifaces) _
    (serving c.args.facts.now c.args.state.now.state c.args.doing _ c.args.report.now.items c.requires.sound c.bounds.ensures place.0) c.finish_note.ensures.keeps

pub finish_delivery-requires-clause-sound : goal.finish_delivery-requires-clause-sound
finish_delivery-requires-clause-sound c =
    let place = rw c.in-Deliver.is at c.requires.sound.place in
    serving c.args.facts.now c.args.state.now.state c.args.doing _ c.args.report.now.items c.requires.sound c.bounds.ensures place.0

pub returns-in-Deliver-clause-room : goal.returns-in-Deliver-clause-room
returns-in-Deliver-clause-room c =
    let place = rw c.in-Deliver.is at c.requires.sound.place in
    served_room c.args.facts.now c.args.state.now.state c.finish_delivery.new.state.state (length c.args.facts.now.ifaces) _
    (serving c.args.facts.now c.args.state.now.state c.args.doing _ c.args.report.now.items c.requires.sound c.bounds.ensures place.0) c.finish_delivery.ensures.keeps

pub finish_packet-requires-clause-sound : goal.finish_packet-requires-clause-sound
finish_packet-requires-clause-sound c =
    let place = rw c.in-Make.is at c.requires.sound.place in
    serving c.args.facts.now c.args.state.now.state c.args.doing _ c.args.report.now.items c.requires.sound c.bounds.ensures place.0

pub returns-in-Make-clause-room : goal.returns-in-Make-clause-room
returns-in-Make-clause-room c =
    let place = rw c.in-Make.is at c.requires.sound.place in
    served_room c.args.facts.now c.args.state.now.state c.finish_packet.new.state.state (length c.args.facts.now.ifaces) _
    (serving c.args.facts.now c.args.state.now.state c.args.doing _ c.args.report.now.items c.requires.sound c.bounds.ensures place.0) c.finish_packet.ensures.keeps

pub returns-in-Give-clause-keeps : goal.returns-in-Give-clause-keeps
returns-in-Give-clause-keeps c = c.finish_give.ensures.keeps (length c.args.facts.now.ifaces)

pub returns-in-Push-clause-keeps : goal.returns-in-Push-clause-keeps
returns-in-Push-clause-keeps c = c.finish_send.ensures.keeps (length c.args.facts.now.ifaces)

pub returns-in-Push-clause-room : goal.returns-in-Push-clause-room
returns-in-Push-clause-room c =
    let place = rw c.in-Push.is at c.requires.sound.place in
    let n = length c.args.facts.now.ifaces in
    served_room c.args.facts.now c.args.state.now.state c.finish_send.new.state.state n _
    (serving c.args.facts.now c.args.state.now.state c.args.doing _ c.args.report.now.items c.requires.sound c.bounds.ensures place) (c.finish_send.ensures.keeps n)
