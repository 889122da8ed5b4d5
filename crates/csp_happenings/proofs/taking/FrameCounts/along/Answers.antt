use Rattle.csp_happenings.proofs.Counting.{AreTaken-more}
use Rattle.csp_happenings.proofs.taking.FrameCounts.along.Goals as goal

pub loop-index-preserved : goal.loop-index-preserved
loop-index-preserved c =
    AreTaken-more c.args.log.now.entries c.loop-index.index c.loop-index.counts c.note.new.self c.framed.result c.framed.ensures c.note.ensures c.loop-index.invariant
