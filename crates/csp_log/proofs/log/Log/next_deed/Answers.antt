use Rattle.std.proofs.Common.{◌∙◌, ap, Some, arith}
use Rattle.csp_log.proofs.Idle.{idle-push}
use Rattle.csp_log.proofs.log.Log.next_deed.Goals as goal

pub loop-at-preserved : goal.loop-at-preserved
loop-at-preserved c =
    let kept = c.loop-at.invariant in
    let before = c.loop-at-test.true in
    let count = c.len.ensures.value in
    (omega (arith, kept.0), omega (arith, before, count), idle-push c.args.self.now.entries c.args.from c.loop-at.at kept.0 kept.2 (c.is_idle.ensures ∙ ap (λ b. Some b) c.if-is_idle.true))
