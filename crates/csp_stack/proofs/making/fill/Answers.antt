use Rattle.std.proofs.Common.{[], ◌∷◌, ap, ◌∙◌, length}
use Rattle.csp_buffer.specs.PlainBuffer.{PlainBuffer}
use Rattle.csp_stack.proofs.Keeping.{addressed_number, after_ports}
use Rattle.csp_stack.proofs.making.fill.Goals as goal

pub returns-clause-keeps : goal.returns-clause-keeps
returns-clause-keeps c =
    let number = ap (λ (b : PlainBuffer). b.picture.number) c.addressed.ensures ∙ addressed_number c.args.facts.now c.args.connection c.terms-terms.result c.make.new.packet.picture ∙ c.make.ensures.number in
    rw (← c.state.view_is, ← number)
    (after_ports (length c.args.facts.now.ifaces) _ c.send.new.state.state c.make.new.self.ports (c.addressed.result.picture.number ∷ []) c.make.ensures.apps c.make.ensures.keeps c.send.ensures.keeps)
