use Rattle.std.proofs.Common.{◌*◌, sym, ◌∙◌}
use Rattle.csp_base.specs.declared.limits.TheConstants.{SLOTS}
use Rattle.csp_ports.proofs.Stilling.{passed}
use Rattle.csp_ports.specs.Quiet.{is_due}
use Rattle.csp_ports.proofs.ports.Ports.any_due.Goals as goal

pub loop-at-preserved : goal.loop-at-preserved
loop-at-preserved c =
    let l = c.loop-at in
    let p = c.args.self.now.ports in
    let count = p.conns.apps * SLOTS in (
      passed (is_due c.args.now p) l.at count (rw (sym l.invariant.1) c.loop-at-test.true) (sym c.is_due.ensures ∙ c.if-is_due.false) ∙ l.invariant.0,
      l.invariant.1,
    )
