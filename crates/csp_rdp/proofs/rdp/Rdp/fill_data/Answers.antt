use Rattle.std.proofs.Common.{◌∙◌, ap, sym}
use Rattle.csp_rdp_window.specs.Sending.{due_index}
use Rattle.csp_rdp.proofs.SoundLemmas.{data-filled, due-there}
use Rattle.csp_rdp.proofs.rdp.Rdp.fill_data.Goals as goal

pub copy-requires : goal.copy-requires
copy-requires c =
    let due = sym (ap (λ r. due_index c.args.now r.options.packet_timeout r.send) c.self.view_is) ∙ sym c.due.ensures ∙ c.in-Some.is in
    record {
      there = due-there c.args.now c.args.self.now.options.packet_timeout c.args.self.now.send c.in-Some.index due;
      cleared = c.requires.cleared;
    }

pub returns-clause-packet : goal.returns-clause-packet
returns-clause-packet c =
    let due = sym (ap (λ r. due_index c.args.now r.options.packet_timeout r.send) c.self.view_is) ∙ sym c.due.ensures ∙ c.in-Some.is in
    let packet = rw (c.copy.ensures.state, c.copy.ensures.payload) at c.acknowledge.ensures.packet in
    packet ∙ data-filled c.args.self.now c.args.into.now c.args.now c.in-Some.index due
