use Rattle.std.proofs.Common.{rules, ◌≡◌, List, [], ◌∷◌, ◌++◌, length, sym, subst, ap, ◌∙◌, arith, append_assoc, length-append}
use Rattle.std.proofs.lemmas.List.Elements.{All-head, All-tail}
use Rattle.crossbeam_queue.specs.Fifo.{Pushes}
use lib.ListN.{length-map}
use Rattle.csp_arena.specs.Cells.{RegionName}
use Rattle.csp_buffer.specs.Memory.{AreAllOf}
use Rattle.csp_buffer.specs.PlainBuffer.{PlainBuffer}
use Rattle.csp_ring.specs.Passes.{ring_capacity}
use Rattle.csp_pool.specs.Fairness.{Fair, HasClosed}
use Rattle.csp_pool.specs.Hands.{gave, with_region}
use Rattle.csp_pool.specs.PlainPool.{numbers}
use Rattle.csp_pool.proofs.Rules.{begins, fills, opens_more, gives_opening, opened_alone, opened_puts}
use Rattle.csp_pool.proofs.pool.Pool.open.Goals as goal

pub open-requires-clause-rule : goal.open-requires-clause-rule
open-requires-clause-rule g c = begins

pub push_as-requires-clause-push : goal.push_as-requires-clause-push
push_as-requires-clause-push g c = let inv = c.loop-buffer.invariant in let b = c.in-Some.buffer in let r : RegionName = c.args.region.name in let bs : List PlainBuffer = c.pop_front.new.self.items in
    let same : b.region ≡ r = All-head (λ (x : PlainBuffer). x.region ≡ r) b bs (subst (AreAllOf r) c.in-Some.ensures.items inv.2) in
    subst (λ v. Pushes Fair (ring_capacity c.in-Ok.opened.0) c.loop-buffer.pass.id v b (λ w. w ≡ gave (with_region v b.region) b.picture.number)) (sym inv.3.2) (gives_opening _ _ r inv.3.0 b same)

pub push_as-requires-clause-full : goal.push_as-requires-clause-full
push_as-requires-clause-full g c = fills _ _ _

pub loop-buffer-preserved : goal.loop-buffer-preserved
loop-buffer-preserved g c = let inv = c.loop-buffer.invariant in let b = c.in-Some.buffer in let r : RegionName = c.args.region.name in let bs : List PlainBuffer = c.pop_front.new.self.items in let done : List PlainBuffer = inv.3.0 in
    let all = subst (AreAllOf r) c.in-Some.ensures.items inv.2 in let same : b.region ≡ r = All-head (λ (x : PlainBuffer). x.region ≡ r) b bs all in (
      search rules,
      search rules,
      All-tail (λ (x : PlainBuffer). x.region ≡ r) b bs all,
      (
        done ++ b ∷ [],
        inv.3.1 ∙ ap (λ (l : List PlainBuffer). done ++ l) c.in-Some.ensures.items ∙ sym (append_assoc done (b ∷ []) bs),
        c.in-Ok-push_as.ensures.rule ∙ ap (λ v. gave (with_region v b.region) b.picture.number) inv.3.2 ∙ opens_more r done b same,
      ),
    )

pub unreachable-requires : goal.unreachable-requires
unreachable-requires g c = let inv = c.loop-buffer.invariant in let r : RegionName = c.args.region.name in let done : List PlainBuffer = inv.3.0 in let held = c.in-Err-push_as.ensures.rule.1 in
    let closed = subst (λ v. HasClosed v (numbers held.0)) inv.3.2 held.2.1 (opened_alone r done) in let counted = closed.counted in let puts = opened_puts r done in
    let total = ap length (inv.3.1 ∙ ap (λ (l : List PlainBuffer). done ++ l) c.in-Some.ensures.items) ∙ length-append done (c.in-Some.buffer ∷ c.pop_front.new.self.items) in
    let room : ring_capacity c.in-Ok.opened.0 ≡ length c.args.buffers.items = search rules in let count = length-map held.0 (λ (x : PlainBuffer). x.picture.number) in let full = held.1 in
    let p0 = puts.0 in let p1 = puts.1 in omega arith
