use Rattle.csp_stack.proofs.Resting.{delivery_asks}
use Rattle.csp_stack.proofs.turn.begin_delivery.Goals as goal

pub returns-clause-asks : goal.returns-clause-asks
returns-clause-asks c =
    delivery_asks c.args.facts.now _ c.args.state.now c.turn.new.self.ports c.take_packet-buffer.new.self.ports c.past_jobs-state-inside.result c.args.seat c.args._now c.take_packet-buffer.result.picture c.state.view_is c.requires.sound
    c.requires.clear c.requires.there c.turn.ensures.keeps c.turn.ensures.apps c.take_packet-buffer.ensures.keeps c.take_packet-buffer.ensures.apps
    (record { is_open = c.take_packet-buffer.ensures.open; is_taken = c.take_packet-buffer.ensures.taken })
