use Rattle.std.proofs.Common.{rules}
use Rattle.crossbeam_queue.proofs.Looks.{sees_tail}
use Rattle.csp_ring.proofs.shapes.RuledRing.tail.Goals as goal

pub load-requires : goal.load-requires
load-requires g c = (search rules, search rules, sees_tail _ _ _ _)
