use Rattle.std.proofs.Common.{rules, ap, ◌∙◌}
use Rattle.csp_happenings.specs.Happenings.{in_rounds}
use Rattle.csp_happenings.proofs.Rounds.{in_order}
use Rattle.csp_happenings.proofs.gathering.happenings.Goals as goal

pub returns : goal.returns
returns c = in_order _ _ c.in_ok-sort_by_key.ensures.sorted c.sort_by_key.ensures.stable (λ a r q k. search rules) ∙ ap in_rounds c.in_ok-list.ensures
