use Rattle.std.specs.Prelude.{◌&&◌}
use Rattle.std.proofs.Common.{ap₂, sym, ◌∙◌}
use Rattle.csp_rdp.proofs.TimerLemmas.{in_time, too_late}
use Rattle.csp_rdp.proofs.rdp.Rdp.times_out.Goals as goal

pub returns-then-waits-clause-rest : goal.returns-then-waits-clause-rest
returns-then-waits-clause-rest c h =
    in_time c.args.now c.args.self.now (ap₂ (λ a b. a && b) (sym c.waits.ensures ∙ c.if-waits.true) (sym c.is_late.ensures.late) ∙ h)

pub returns-then-waits-clause-changes : goal.returns-then-waits-clause-changes
returns-then-waits-clause-changes c h =
    too_late c.args.now c.args.self.now (ap₂ (λ a b. a && b) (sym c.waits.ensures ∙ c.if-waits.true) (sym c.is_late.ensures.late) ∙ h)
