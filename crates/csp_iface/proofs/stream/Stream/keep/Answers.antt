use Rattle.std.proofs.Common.{length, ap, refl, arith}
use Rattle.csp_log.specs.declared.frame.Frame.{Frame}
use Rattle.csp_iface.proofs.Circling.{some_left}
use Rattle.csp_iface.proofs.stream.Stream.keep.Goals as goal

pub returns-then-at-len-clause-stock : goal.returns-then-at-len-clause-stock
returns-then-at-len-clause-stock c =
    let same = ap (λ (f : Frame). length f.bytes.items) c.frame.ensures in
    rw (some_left c.args.at c.args.frame.bytes.items (omega (arith, c.if-at-len.true, c.len.ensures.value))) refl
