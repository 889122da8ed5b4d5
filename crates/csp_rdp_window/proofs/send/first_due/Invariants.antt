use Rattle.std.proofs.Common.{◌≡◌, None, take}
use Rattle.std.specs.List.{find}
use Rattle.csp_rdp_window.specs.Places.{held_in}
use Rattle.csp_rdp_window.specs.Sending.{is_due}
use Rattle.csp_rdp_window.proofs.send.first_due.Given as goal

abbrev pub invariant-loop-place : goal.invariant-loop-place
invariant-loop-place l = find (is_due l.now l.timeout) (held_in (take l.place-index l.places)) ≡ None
