use Rattle.std.proofs.Common.{◌≡◌, ◌++◌, length}
use Rattle.csp_deck.specs.Keeping.{with_contents}
use Rattle.csp_ports.specs.Came.{pictures}
use Rattle.csp_rdp.specs.Holding.{rdp_buffers}
use Rattle.csp_rdp.specs.Regions.{AreAllIn}
use Rattle.csp_ports.proofs.steps.spend.Given as goal

abbrev pub invariant-loop-buffer : goal.invariant-loop-buffer
invariant-loop-buffer l =
    (l.trash.contents ++ pictures (rdp_buffers l.machine) ≡ l.fn.trash.contents ++ pictures (rdp_buffers l.fn.machine))
    × (l.trash ≡ with_contents l.fn.trash l.trash.contents)
    × AreAllIn l.fn.trash.region l.machine

abbrev pub decreases-loop-buffer : goal.decreases-loop-buffer
decreases-loop-buffer l = length (rdp_buffers l.machine)
