use Rattle.std.proofs.Common.{◌≡◌, ◌-◌, zero, arith, ap, sym, ◌∙◌}
use Rattle.std.specs.List.{find, range_with_len}
use Rattle.csp_ports.proofs.Finding.{fails_next, passes_next}
use Rattle.csp_ports.specs.Tasks.{has_task}
use Rattle.csp_ports.proofs.ports.Ports.find_between.Goals as goal

pub returns-then-owes-clause-place : goal.returns-then-owes-clause-place
returns-then-owes-clause-place c =
    passes_next (has_task c.args.now c.args.self.now.ports) c.loop-at.at c.args.end c.loop-at-test.true (sym c.owes.ensures ∙ c.if-owes.true) ∙ c.loop-at.invariant

pub loop-at-preserved : goal.loop-at-preserved
loop-at-preserved c =
    fails_next (has_task c.args.now c.args.self.now.ports) c.loop-at.at c.args.end c.loop-at-test.true (sym c.owes.ensures ∙ c.if-owes.false) ∙ c.loop-at.invariant

pub returns-clause-place : goal.returns-clause-place
returns-clause-place c =
    let none : c.args.end - c.loop-at.at ≡ zero = omega (arith, c.loop-at-test.false) in
    sym (ap (λ n. find (has_task c.args.now c.args.self.now.ports) (range_with_len c.loop-at.at n)) none) ∙ c.loop-at.invariant
