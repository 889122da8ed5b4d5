use Rattle.std.proofs.Common.{◌∙◌, ap, sym, true}
use Rattle.csp_rdp.specs.Table.{acknowledged, listing}
use Rattle.csp_rdp.proofs.rdp.Rdp.hear_list.Goals as goal

pub returns-then-hear-clause-state : goal.returns-then-hear-clause-state
returns-then-hear-clause-state c =
    c.hear_numbers.ensures.state
    ∙ ap (listing true c.args.bytes.now c.args.now) c.hear.ensures.state
    ∙ ap (λ b. listing b c.args.bytes.now c.args.now (acknowledged c.args.number.0 c.args.now c.args.self.now)) (sym c.if-hear.true ∙ c.hear.ensures.inside)
