use Rattle.std.proofs.Common.{rules, arith}
use Rattle.std.proofs.lemmas.Grind.{common_steps}
use Rattle.csp_app.proofs.Hearing.{asked_ready}
use Rattle.csp_app.proofs.app.App.look_now.Goals as goal

pub invariant_of-self : goal.invariant_of-self
invariant_of-self c = asked_ready c.self.inside _ c.args.self.now c.args.now c.self.invariant c.self.view_is c.requires.goes_on
    (first_of (search rules, grind (arith, common_steps))) (first_of (search rules, grind (arith, common_steps))) (record { taken = first_of (search rules, grind (arith, common_steps)); made = first_of (search rules, grind (arith, common_steps)); held = first_of (search rules, grind (arith, common_steps)) })
