use Rattle.std.proofs.Common.{rules, sym, subst, ap, ◌∙◌, ℕ, ◌+◌, ◌-◌}
use Rattle.crossbeam_queue.specs.Fifo.{Held}
use Rattle.crossbeam_queue.specs.Stamps.{stamp}
use Rattle.crossbeam_queue.proofs.Stamps.{lap_back, lap_past}
use Rattle.csp_ring.proofs.shapes.RuledRing.push_from.Goals as goal

pub head_if_full-requires-clause-seen : goal.head_if_full-requires-clause-seen
head_if_full-requires-clause-seen g c = let at = c.loop.invariant.3.1 in let saw = c.stamp_at_tail-stamp.ensures.1 in let deep = lap_past _ _ c.args.self.now.sized.2 _ _ at c.if-tail-self.true in
    let back = (lap_back _ _ c.args.self.now.sized.2 _ _ at deep).1 in saw.3 deep (c.if-stamp-tail.true ∙ ap (λ (z : ℕ). z + 1) back)

pub returns-then-head_if_full-tail-clause-rule : goal.returns-then-head_if_full-tail-clause-rule
returns-then-head_if_full-tail-clause-rule g c = let at = c.loop.invariant.3.1 in let saw = c.stamp_at_tail-stamp.ensures.1 in let deep = lap_past _ _ c.args.self.now.sized.2 _ _ at c.if-tail-self.true in
    let back = (lap_back _ _ c.args.self.now.sized.2 _ _ at deep).1 in let n : ℕ = c.args.self.now.capacity in let same = saw.0.0 ∙ c.loop.invariant.2 in let told = c.head_if_full.ensures.1 in
    (c.loop.invariant.4, subst (λ v. Held n (λ items. g.M.Finding.found v items c.head_if_full.new.pass.me.0.client)) same (told.1 (c.if-head_if_full-tail.true ∙ back ∙ ap (λ (z : ℕ). stamp n (z - n)) (sym saw.1))))

pub loop-preserved-then-stamp-tail : goal.loop-preserved-then-stamp-tail
loop-preserved-then-stamp-tail g c = let at = c.loop.invariant.3.1 in let saw = c.stamp_at_tail-stamp.ensures.1 in let deep = lap_past _ _ c.args.self.now.sized.2 _ _ at c.if-tail-self.true in
    let back = (lap_back _ _ c.args.self.now.sized.2 _ _ at deep).1 in let n : ℕ = c.args.self.now.capacity in
    let kept = c.head_if_full.ensures.1.2 (λ e. c.if-head_if_full-tail.false (e ∙ ap (λ (z : ℕ). stamp n (z - n)) saw.1 ∙ sym back)) in
    (search rules, search rules, c.tail-tail-then-stamp-tail.ensures.1.0.0 ∙ kept ∙ saw.0.0 ∙ c.loop.invariant.2, search rules, search rules, search rules)
