use Rattle.std.proofs.Common.{◌≡◌}
use Rattle.csp_app.specs.Making.{burst_bytes}
use Rattle.csp_app.proofs.packets.piece_from.Given as goal

abbrev pub invariant-loop-i : goal.invariant-loop-i
invariant-loop-i l = l.bytes.items ≡ burst_bytes l.i l.first
