use Rattle.std.proofs.Common.{rules}
use Rattle.crossbeam_queue.proofs.Looks.{counts}
use Rattle.csp_ring.proofs.shapes.RuledRing.head_to_count.Goals as goal

pub load-requires : goal.load-requires
load-requires g c = (search rules, search rules, counts _ g.M.Lesson.fact _ _ _ (search rules) (search rules))
