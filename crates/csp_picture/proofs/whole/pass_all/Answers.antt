use Rattle.std.proofs.Common.{◌<◌, length, arith}
use Rattle.csp_picture.specs.Seen.{after_all}
use Rattle.csp_picture.proofs.Steps.{passed_more}
use Rattle.csp_picture.proofs.whole.pass_all.Goals as goal

pub loop-happening-preserved : goal.loop-happening-preserved
loop-happening-preserved c =
    let l = c.loop-happening in
    let hs = c.args.happenings.now in
    let within : l.happening-index < length hs = omega arith in
    passed_more c.args.window hs l.happening-index c.happening-item.result within c.happening-item.is l.seen (after_all c.args.window c.args.seen.now hs) c.pass.new.self c.in_ok-pass.ensures l.invariant
