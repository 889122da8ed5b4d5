use Rattle.std.proofs.Common.{◌+◌, ◌-◌, ◌*◌, subst, sym, ◌∙◌}
use Rattle.std.specs.List.{range_with_len}
use Rattle.csp_base.specs.declared.limits.TheConstants.{SLOTS}
use Rattle.csp_base.specs.declared.seat.Seat.{Seat}
use Rattle.csp_conn.specs.PlainConns.{seat_of}
use Rattle.csp_ports.proofs.Following.{range_next, then_comes}
use Rattle.csp_ports.specs.Came.{Comes, at_work}
use Rattle.csp_ports.specs.Steps.{timed_at, timed_in}
use Rattle.csp_ports.proofs.ports.Ports.tick_all.Goals as goal

pub loop-at-preserved : goal.loop-at-preserved
loop-at-preserved c =
    let l = c.loop-at in
    let now = c.args.now in
    let count = c.args.self.now.ports.conns.apps * SLOTS in
    let one = subst (λ (x : Seat). Comes (at_work l.self l.trash l.report.items) (at_work c.tick_at.new.self c.tick_at.new.trash c.tick_at.new.report.items) (timed_at now x l.self.ports)) c.seat_at-seat.ensures.value c.tick_at.ensures.comes in (
      λ new after later h.
          l.invariant.0 new after later
          (rw (range_next l.at count (rw (sym l.invariant.1) c.loop-at-test.true))
          (then_comes l.self c.tick_at.new.self new l.trash c.tick_at.new.trash after l.report.items c.tick_at.new.report.items later (timed_at now (seat_of l.at) l.self.ports) (timed_in now (range_with_len (l.at + 1) (count - (l.at + 1)))) one h)),
      l.invariant.1,
      c.tick_at.ensures.apps ∙ l.invariant.2,
      c.tick_at.ensures.roomy,
      c.tick_at.ensures.quiet ∙ l.invariant.4,
    )
