use Rattle.std.proofs.Common.{rules}
use Rattle.crossbeam_queue.proofs.Looks.{sees_head}
use Rattle.csp_ring.proofs.shapes.RuledRing.head.Goals as goal

pub load-requires : goal.load-requires
load-requires g c = (search rules, search rules, sees_head _ _ _ _)
