use Rattle.std.proofs.Common.{arith}
use Rattle.csp_rounds.proofs.Places.{all_zip}
use Rattle.csp_rounds.proofs.parts.round_of_each.Goals as goal

pub returns : goal.returns
returns g c =
    let kept = c.loop-post.invariant in
    all_zip (λ p q. g.W.Worker.does p c.args.shared.now c.args.now q) c.args.posts.now c.loop-post.post-items kept.0 (λ k d less. kept.1 k d (omega (arith, less, c.loop-post-test.false, c.loop-post.auto.post-index-end, kept.0)))
