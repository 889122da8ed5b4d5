use Rattle.std.proofs.Common.{◌≡◌, None, take}
use Rattle.std.specs.Prelude.{◌==◌}
use Rattle.std.specs.List.{find}
use Rattle.csp_rdp_window.specs.Places.{held_in}
use Rattle.csp_rdp_window.proofs.send.has_buffer.Given as goal

abbrev pub invariant-loop-place : goal.invariant-loop-place
invariant-loop-place l = find (λ p. p.buffer.picture.number == l.number) (held_in (take l.place-index l.places)) ≡ None
