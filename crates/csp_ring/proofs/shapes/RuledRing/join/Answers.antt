use Rattle.std.proofs.Common.{rules}
use Rattle.crossbeam_queue.proofs.Comings.{merges}
use Rattle.csp_ring.proofs.shapes.RuledRing.join.Goals as goal

pub join_seat-requires : goal.join_seat-requires
join_seat-requires g c = (search rules, search rules, search rules, search rules, merges _ _ c.args.pass.now.me.0 _ c.args.other.me.0 _ _ (search rules))
