use Rattle.std.proofs.Common.{rules}
use Rattle.crossbeam_queue.proofs.Comings.{forks}
use Rattle.csp_ring.proofs.shapes.RuledRing.split.Goals as goal

pub split_seat-requires : goal.split_seat-requires
split_seat-requires g c = (search rules, search rules, forks _ _ c.args.pass.now.me.0 _ _ (search rules))
