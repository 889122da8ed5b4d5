use Rattle.std.proofs.Common.{◌≡◌, ◌++◌, length}
use Rattle.csp_deck.specs.Keeping.{with_contents}
use Rattle.csp_ports.specs.Came.{pictures}
use Rattle.csp_rdp.specs.Holding.{rested, unneeded}
use Rattle.csp_rdp.specs.Regions.{AreAllIn}
use Rattle.csp_ports.proofs.steps.let_go.Given as goal

abbrev pub invariant-loop-buffer : goal.invariant-loop-buffer
invariant-loop-buffer l =
    (rested l.machine ≡ rested l.fn.machine)
    × (l.trash.contents ++ pictures (unneeded l.machine) ≡ l.fn.trash.contents ++ pictures (unneeded l.fn.machine))
    × (l.trash ≡ with_contents l.fn.trash l.trash.contents)
    × AreAllIn l.fn.trash.region l.machine

abbrev pub decreases-loop-buffer : goal.decreases-loop-buffer
decreases-loop-buffer l = length (unneeded l.machine)
