use Rattle.crossbeam_queue.proofs.Stamps.{index_found}
use Rattle.csp_ring.proofs.shapes.RuledRing.index_of.Goals as goal

pub returns-clause-value : goal.returns-clause-value
returns-clause-value g c = index_found _ _ c.args.self.now.sized.2 _
