use Rattle.std.proofs.Common.{◌≡◌, None, take}
use Rattle.std.specs.Prelude.{◌==◌}
use Rattle.std.specs.List.{find}
use Rattle.csp_rdp_window.specs.Places.{held_in}
use Rattle.csp_rdp_window.proofs.send.packet_of.Given as goal

abbrev pub invariant-loop-place : goal.invariant-loop-place
invariant-loop-place l = find (λ p. p.index == l.index) (held_in (take l.place-index l.places)) ≡ None
