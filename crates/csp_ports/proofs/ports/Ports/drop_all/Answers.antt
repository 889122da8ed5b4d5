use Rattle.std.proofs.Common.{◌+◌, ◌-◌, ◌*◌, arith, subst, sym, ◌∙◌}
use Rattle.std.specs.List.{range_with_len}
use Rattle.csp_base.specs.declared.limits.TheConstants.{SLOTS}
use Rattle.csp_base.specs.declared.seat.Seat.{Seat}
use Rattle.csp_conn.specs.PlainConns.{seat_of}
use Rattle.csp_ports.proofs.Following.{range_next, then_comes}
use Rattle.csp_ports.specs.Came.{Comes, at_work}
use Rattle.csp_ports.specs.Steps.{dropped, dropped_in}
use Rattle.csp_ports.proofs.ports.Ports.drop_all.Goals as goal

pub loop-at-preserved : goal.loop-at-preserved
loop-at-preserved c =
    let l = c.loop-at in
    let count = c.args.self.now.ports.conns.apps * SLOTS in
    let one = subst (λ (x : Seat). Comes (at_work l.self l.trash l.report.items) (at_work c.drop_stalled.new.self c.drop_stalled.new.trash c.drop_stalled.new.report.items) (dropped x l.self.ports)) c.seat_at-seat.ensures.value c.drop_stalled.ensures.comes in (
      λ new after later h.
          l.invariant.0 new after later
          (rw (range_next l.at count (rw (sym l.invariant.1) c.loop-at-test.true))
          (then_comes l.self c.drop_stalled.new.self new l.trash c.drop_stalled.new.trash after l.report.items c.drop_stalled.new.report.items later (dropped (seat_of l.at) l.self.ports) (dropped_in (range_with_len (l.at + 1) (count - (l.at + 1)))) one h)),
      l.invariant.1,
      c.drop_stalled.ensures.apps ∙ l.invariant.2,
      c.drop_stalled.ensures.roomy,
      omega (arith, c.drop_stalled.ensures.few, l.invariant.4),
    )
