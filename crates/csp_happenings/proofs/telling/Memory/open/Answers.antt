use Rattle.std.proofs.Common.{◌≡◌, ap, ◌∙◌, arith}
use Rattle.csp_link.specs.Fates.{fate_of}
use Rattle.csp_happenings.specs.Remembering.{count_of}
use Rattle.csp_happenings.proofs.Idle.{opening}
use Rattle.csp_happenings.proofs.telling.Memory.open.Goals as goal

pub returns-clause-remembers : goal.returns-clause-remembers
returns-clause-remembers c =
    let opened = c.in_ok-carrying.ensures in
    opening c.args.scene.now c.args.who (record { numbers = c.new.result; carrying = c.in_ok-carrying.carrying }) c.new.ensures.empty opened.taken (λ end n. opened.fates end n ∙ ap (fate_of end n) c.plan_at.ensures)

pub returns-clause-within : goal.returns-clause-within
returns-clause-within c =
    λ end.
    let none : count_of c.in_ok-carrying.carrying end ≡ 0 = c.in_ok-carrying.ensures.taken end in
    omega (arith, none)
