use Rattle.std.proofs.Common.{ap, arith}
use Rattle.csp_link.specs.Fates.{Fates, most_copies}
use Rattle.csp_hub.proofs.Few.{most_above, most_few}
use Rattle.csp_hub.proofs.fates.Fates.most_copies.Goals as goal

pub returns-clause-few : goal.returns-clause-few
returns-clause-few c =
    let above = most_above c.loop-fate.fate-iterator c.loop-fate.most in
    let few = most_few c.self.inside.map.entries c.self.invariant in
    let same = ap (λ (fates : Fates). most_copies fates) c.self.view_is in
    omega (arith, above, few, same, c.loop-fate.invariant)
