use Rattle.std.proofs.Common.{[], ◌∷◌, length}
use Rattle.csp_stack.proofs.Keeping.{after_services}
use Rattle.csp_stack.specs.Serving.{facts_of}
use Rattle.csp_stack.proofs.services.ask_service.Goals as goal

pub returns-in-Reply-clause-keeps : goal.returns-in-Reply-clause-keeps
returns-in-Reply-clause-keeps c =
    let n = length c.args.facts.now.ifaces in
    let k = c.send_reply.ensures.keeps in
    after_services n c.args.state.now.state c.send_reply.new.state.state (facts_of c.args.facts.now c.ask-served.new.state.state) (c.args.packet.buffer.picture.number ∷ []) c.ask-served.ensures.within (rw c.ask-served.ensures.state at k)

pub returns-in-Silent-clause-keeps : goal.returns-in-Silent-clause-keeps
returns-in-Silent-clause-keeps c =
    let n = length c.args.facts.now.ifaces in
    let k = c.spend.ensures.keeps n in
    rw (← c.into_buffer.ensures)
    (after_services n c.args.state.now.state c.spend.new.self.state (facts_of c.args.facts.now c.ask-served.new.state.state) (c.into_buffer.result.picture.number ∷ []) c.ask-served.ensures.within (rw c.ask-served.ensures.state at k))

pub returns-in-Refused-clause-keeps : goal.returns-in-Refused-clause-keeps
returns-in-Refused-clause-keeps c =
    let n = length c.args.facts.now.ifaces in
    let k = c.discard.ensures.keeps n in
    rw (← c.into_buffer-in-Refused.ensures)
    (after_services n c.args.state.now.state c.discard.new.self.state (facts_of c.args.facts.now c.ask-served.new.state.state) (c.into_buffer-in-Refused.result.picture.number ∷ []) c.ask-served.ensures.within (rw c.ask-served.ensures.state at k))

pub returns-in-NoService-clause-keeps : goal.returns-in-NoService-clause-keeps
returns-in-NoService-clause-keeps c =
    let n = length c.args.facts.now.ifaces in
    let k = c.discard-in-NoService.ensures.keeps n in
    rw (← c.into_buffer-in-NoService.ensures)
    (after_services n c.args.state.now.state c.discard-in-NoService.new.self.state (facts_of c.args.facts.now c.ask-served.new.state.state) (c.into_buffer-in-NoService.result.picture.number ∷ []) c.ask-served.ensures.within (rw c.ask-served.ensures.state at k))
