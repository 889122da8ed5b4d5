use Rattle.csp_stack.specs.Comes.{heard_elsewhere}
use Rattle.csp_stack.proofs.at_port.hear_at_socket.Goals as goal

pub returns-in_default-clause-told : goal.returns-in_default-clause-told
returns-in_default-clause-told c = c.in_default.ensures.told (λ q. heard_elsewhere c.args.facts.now c.args.state.now.state c.args.now q)
