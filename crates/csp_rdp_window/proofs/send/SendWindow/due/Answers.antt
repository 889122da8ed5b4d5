use Rattle.std.proofs.Common.{arith, refl}
use Rattle.csp_rdp_window.proofs.SendLemmas.{none-due}
use Rattle.csp_rdp_window.proofs.send.SendWindow.due.Goals as goal

pub returns-then-self : goal.returns-then-self
returns-then-self c =
    rw (← c.self.view_is) (rw (none-due c.self.inside.una c.self.inside.nxt c.args.now c.args.packet_timeout c.self.inside.places c.self.invariant.placed (omega (arith, c.if-self.true))) refl)
