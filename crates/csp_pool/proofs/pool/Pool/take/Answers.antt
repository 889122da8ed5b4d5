use Rattle.csp_pool.proofs.Rules.{takes, empties}
use Rattle.csp_pool.proofs.pool.Pool.take.Goals as goal

pub pop_as-requires-clause-pop : goal.pop_as-requires-clause-pop
pop_as-requires-clause-pop g c = takes _ _ c.pass.invariant.1

pub pop_as-requires-clause-empty : goal.pop_as-requires-clause-empty
pop_as-requires-clause-empty g c = empties _ _
