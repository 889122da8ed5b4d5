use Rattle.csp_happenings.proofs.Counting.{AreTaken}
use Rattle.csp_happenings.proofs.taking.FrameCounts.along.Given as goal

-- the frames of the entries so far are counted
abbrev pub invariant-loop-index : goal.invariant-loop-index
invariant-loop-index l = AreTaken l.log.entries l.index l.counts
