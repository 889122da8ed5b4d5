use Rattle.std.proofs.Common.{rules}
use Rattle.crossbeam_queue.proofs.Looks.{sees_free}
use Rattle.csp_ring.proofs.shapes.RuledRing.stamp_at_tail.Goals as goal

pub load-requires : goal.load-requires
load-requires g c = (search rules, search rules, sees_free _ _ _ _ _ (search rules) (search rules))
