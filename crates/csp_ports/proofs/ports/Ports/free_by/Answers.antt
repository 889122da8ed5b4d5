use Rattle.std.proofs.Common.{◌-◌, ◌^◌, arith, ap}
use Rattle.csp_base.specs.Seat.{seat}
use Rattle.csp_ports.proofs.Counting.{far_at}
use Rattle.csp_ports.specs.declared.terms.Terms.{Terms}
use Rattle.csp_ports.proofs.ports.Ports.free_by.Goals as goal

pub overflow_add-terms : goal.overflow_add-terms
overflow_add-terms c = omega (arith, far_at (2 ^ 32 - 2) c.args.self.now.ports (seat c.args.app c.in-Closed.slot) c.requires.countable, ap (λ (t : Terms). t.ordinal) c.terms-terms.ensures.value)
