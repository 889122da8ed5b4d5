-- The ports before this step are taken: the first one that is not taken is among those still to come.
use Rattle.std.proofs.Common.{◌≡◌}
use Rattle.csp_conn.specs.Opening.{is_taken, next_port}
use Rattle.csp_conn.proofs.Ports.{first_from}
use Rattle.csp_conn.proofs.conns.Conns.next_port.Given as goal

abbrev pub invariant-loop-steps : goal.invariant-loop-steps
invariant-loop-steps l = next_port l.self l.dest ≡ first_from (is_taken l.self l.dest) l.self.last l.steps
