use Rattle.std.proofs.Common.{arith}
use Rattle.csp_exports.specs.Frames.{written_for}
use Rattle.csp_exports.proofs.Walking.{appended}
use Rattle.csp_exports.proofs.frames.push_log.Goals as goal

pub loop-index-preserved : goal.loop-index-preserved
loop-index-preserved c =
    let l = c.loop-index in (
      appended (written_for c.args.form c.args.link.now) c.args.log.now.entries l.index c.entry.result l.out.items c.push_entry.new.out.items _ (omega (arith, c.len.ensures.value, c.loop-index-test.true)) c.entry.ensures c.in_ok-push_entry.ensures l.invariant.0,
      omega (arith, c.len.ensures.value, c.loop-index-test.true),
    )
