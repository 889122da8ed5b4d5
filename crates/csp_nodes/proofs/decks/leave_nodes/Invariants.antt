use Rattle.std.proofs.Common.{length}
use Rattle.std.specs.List.{AllByRecursion}
use Rattle.csp_nodes.specs.Seeing.{decks_of}
use Rattle.csp_nodes.specs.Unused.{IsUnused}
use Rattle.csp_nodes.proofs.decks.leave_nodes.Given as goal

abbrev pub invariant-loop-node : goal.invariant-loop-node
invariant-loop-node l = AllByRecursion IsUnused (decks_of l.nodes.items)

abbrev pub decreases-loop-node : goal.decreases-loop-node
decreases-loop-node l = length l.nodes.items
