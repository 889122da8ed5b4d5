use Rattle.std.proofs.Common.{ap, ◌∙◌}
use Rattle.csp_link.specs.Fates.{afflicted}
use Rattle.csp_happenings.proofs.Plans.{fate-put}
use Rattle.csp_happenings.proofs.links.add_fault.Goals as goal

pub returns : goal.returns
returns c = λ dir frame.
    fate-put c.args.fates.now c.insert.new.self dir frame c.args.fault.now c.with-fate.result (c.with-fate.ensures ∙ ap (afflicted c.args.fault.now.kind) c.fate_at.ensures) (λ q. c.in_ok-insert.ensures.updates.0 q)
