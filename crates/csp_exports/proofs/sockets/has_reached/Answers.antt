use Rattle.std.proofs.Common.{◌<◌, length, sym, arith}
use Rattle.csp_exports.specs.Unused.{is_reaching}
use Rattle.csp_exports.proofs.Walking.{found, passed}
use Rattle.csp_exports.proofs.sockets.has_reached.Goals as goal

pub returns-then-is_reaching : goal.returns-then-is_reaching
returns-then-is_reaching c =
    let l = c.loop-index in
    let within : l.index < length c.args.log.now.entries = omega (arith, c.len.ensures.value, c.loop-index-test.true) in
    sym (found (is_reaching c.args.app c.args.port) c.args.log.now.entries l.index c.is_reaching.result _ within c.is_reaching.ensures c.if-is_reaching.true l.invariant.0)

pub loop-index-preserved : goal.loop-index-preserved
loop-index-preserved c =
    let l = c.loop-index in
    let within : l.index < length c.args.log.now.entries = omega (arith, c.len.ensures.value, c.loop-index-test.true) in
    (passed (is_reaching c.args.app c.args.port) c.args.log.now.entries l.index c.is_reaching.result _ within c.is_reaching.ensures c.if-is_reaching.false l.invariant.0, omega (arith, within))
