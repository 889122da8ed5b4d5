use Rattle.csp_stack.specs.Comes.{heard_at_socket}
use Rattle.csp_stack.proofs.at_port.hear_at_port.Goals as goal

pub returns-in_default-clause-told : goal.returns-in_default-clause-told
returns-in_default-clause-told c = c.in_default.ensures.told (λ q. heard_at_socket c.args.facts.now c.args.state.now.state c.args.now q)
