use Rattle.crossbeam_queue.proofs.Stamps.{next_found, round_found}
use Rattle.csp_ring.proofs.shapes.RuledRing.after.Goals as goal

pub returns-then-index-self : goal.returns-then-index-self
returns-then-index-self g c = λ p. next_found _ _ c.args.self.now.sized.2 _ _ p c.if-index-self.true

pub returns-else-index-self : goal.returns-else-index-self
returns-else-index-self g c = λ p. round_found _ _ c.args.self.now.sized.2 _ _ p c.if-index-self.false
