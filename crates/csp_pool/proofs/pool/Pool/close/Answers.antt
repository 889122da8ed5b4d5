use Rattle.std.proofs.Common.{rules, ◌≡◌, ◌+◌, ◌<◌, List, sym, subst, ap, ◌∙◌}
use Rattle.crossbeam_queue.specs.Passes.{view}
use Rattle.csp_buffer.specs.Memory.{AreAllOf}
use Rattle.csp_buffer.specs.PlainBuffer.{PlainBuffer}
use Rattle.csp_pool.specs.declared.hand.Hand.{Hand}
use Rattle.csp_pool.specs.Fairness.{HasClosed, Closes}
use Rattle.csp_pool.specs.Hands.{IsLive, IsAlone, took_all}
use Rattle.csp_pool.specs.PlainPool.{numbers}
use Rattle.csp_pool.proofs.Rules.{takes, empties, leaves, closes_all}
use Rattle.csp_pool.proofs.pool.Pool.close.Goals as goal

pub len_as-count-requires-clause-rule : goal.len_as-count-requires-clause-rule
len_as-count-requires-clause-rule g c = leaves _ _

pub pop_as-requires-clause-pop : goal.pop_as-requires-clause-pop
pop_as-requires-clause-pop g c = takes _ _ (subst IsLive (sym c.drain.ensures.left.3) (subst (λ (v : Hand). 0 < v.opens + v.part) (sym c.len_as-count.ensures.ring.1) c.pass.invariant.1))

pub pop_as-requires-clause-empty : goal.pop_as-requires-clause-empty
pop_as-requires-clause-empty g c = empties _ _

pub returns-clause-left : goal.returns-clause-left
returns-clause-left g c = let v : Hand = view c.pass.inside.pass in let told = c.drain.ensures.left in let left : List PlainBuffer = told.0 in let same = c.len_as-count.ensures.ring.1 in
    let alone : IsAlone v = search rules in let held = c.len_as-count.ensures.rule.1 in let first : Closes v (numbers held.0) = held.2 alone in let found = c.in-None.ensures.rule in
    let last : HasClosed (took_all v (numbers left)) (numbers found.0) = subst (λ (h : Hand). HasClosed h (numbers found.0)) (told.3 ∙ ap (λ (h : Hand). took_all h (numbers left)) same) found.2.1 in
    let is : v ≡ c.args.pass.hand = search rules in
    (left, told.1, subst (λ (h : Hand). AreAllOf h.region left) (same ∙ is) told.2, subst (λ (h : Hand). Closes h (numbers left)) is (closes_all v left held.0 found.0 alone first found.1 last))
