use Rattle.std.proofs.Common.{ap, sym, subst, ◌∙◌, ◌++◌, ◌∷◌, []}
use Rattle.std.specs.Option.{option_to_list}
use Rattle.csp_kiss.specs.Stream.{events}
use Rattle.csp_kiss.specs.Reading.{HasRead}
use Rattle.csp_kiss.proofs.Steps.{events-push, has_read-push}
use Rattle.csp_kiss.proofs.reader.KissReader.byte.Goals as goal

pub returns-clause-read : goal.returns-clause-read
returns-clause-read c stream h =
    subst (HasRead (stream ++ c.args.byte ∷ [])) (sym c.step.ensures.state) (has_read-push c.args.self.now stream c.args.byte h)

pub returns-clause-event : goal.returns-clause-event
returns-clause-event c stream h =
    events-push c.args.self.now stream c.args.byte h
    ∙ ap (λ event. events c.args.self.now.cover c.args.self.now.mtu stream ++ option_to_list event) (sym c.step.ensures.answer)
