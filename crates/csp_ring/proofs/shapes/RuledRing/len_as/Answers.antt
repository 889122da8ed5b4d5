use Rattle.std.proofs.Common.{arith, sym, subst, ◌∙◌, ◌≡◌, ℕ, ◌+◌, ◌-◌, ◌≤◌}
use Rattle.crossbeam_queue.proofs.Stamps.{one_stamp}
use Rattle.crossbeam_queue.specs.Fifo.{Held}
use Rattle.csp_ring.proofs.shapes.RuledRing.len_as.Goals as goal

pub returns-then-tail-clause-rule : goal.returns-then-tail-clause-rule
returns-then-tail-clause-rule g c = let n : ℕ = c.args.self.now.capacity in let first = c.tail-tail.ensures.1 in let mid = c.head_to_count-head.ensures.1 in let last = c.tail.ensures.1 in
    let t : ℕ = c.tail-tail.new.pass.me.0.at in let a : ℕ = c.head_to_count-head.new.pass.me.0.at in let z : ℕ = c.tail.new.pass.me.0.at in let h : ℕ = mid.3.0 in
    let same : z ≡ t = one_stamp _ _ c.args.self.now.sized.2 t z (sym last.1.1 ∙ c.if-tail.true ∙ first.1.1) in let up : t ≤ a = mid.2 in let on : a ≤ z = last.2 mid.1 in let le : h ≤ a = mid.3.2 in let near : a ≤ h + n = mid.3.3 in
    let r : ℕ = c.between.result in let is : r ≡ t - h = c.between.ensures h t mid.3.1 first.1.1 (omega arith) (omega arith) in let back : a - h ≡ r = omega arith in
    (omega arith, subst (λ (y : ℕ × g.row.V.Denot). Held y.0 (g.M.Lesson.fact y.1)) (λ i. (back i, (first.0.0 ∙ c.loop.invariant.2) i)) mid.3.4)
