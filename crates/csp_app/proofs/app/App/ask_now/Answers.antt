use Rattle.std.proofs.Common.{rules, arith, ap, ◌≡◌}
use Rattle.csp_app.specs.PlainApp.{AppAt}
use Rattle.std.proofs.lemmas.Grind.{common_steps}
use Rattle.csp_app.proofs.Hearing.{asked_ready}
use Rattle.csp_app.proofs.app.App.ask_now.Goals as goal
use Rattle.csp_app.proofs.app.App.ask_now.Goals.{in-Return, in-Look, in-Give, in-Ask, in-Await, in-Push, in-Receive, in-Take, in-Rest}

pub invariant_of-self : goal.invariant_of-self
invariant_of-self c = asked_ready c.self.inside _ c.args.self.now c.args.now c.self.invariant c.self.view_is c.requires.goes_on
    (first_of (search rules, grind (arith, common_steps))) (first_of (search rules, grind (arith, common_steps))) (record { taken = first_of (search rules, grind (arith, common_steps)); made = first_of (search rules, grind (arith, common_steps)); held = first_of (search rules, grind (arith, common_steps)) })

-- its region is that of the packet that it has taken
region : (c : goal.After-self-2-1) → c.self.inside.taken.region ≡ c.args.self.now.region
region c = ap (λ (a : AppAt). a.region) c.self.view_is

pub returns-clause-of_it : goal.returns-clause-of_it
returns-clause-of_it c = elim c.match-plan.branch [
  | in-Return w ↦ rw (w.op-is, ← region c) (w.given-op.ensures.of_it c.self.inside.taken.region w.take.ensures.of_it)
  | in-Look w ↦ rw w.op-is tt
  | in-Give w ↦ rw (w.op-is, ← region c) (w.given-op-in-Give.ensures.of_it c.self.inside.taken.region (rw c.self.invariant.held_of_it at w.pop.ensures.of_it))
  | in-Ask w ↦ rw w.op-is tt
  | in-Await w ↦ rw w.op-is tt
  | in-Push w ↦ rw (w.op-is, ← region c) (w.pushed-op.ensures.of_it c.self.inside.taken.region (rw c.self.invariant.made_of_it at w.take-in-Push.ensures.of_it))
  | in-Receive w ↦ rw w.op-is tt
  | in-Take w ↦ rw w.op-is tt
  | in-Rest w ↦ rw w.op-is tt
]
