use Rattle.std.proofs.Common.{rules}
use Rattle.crossbeam_queue.specs.Passes.{view}
use Rattle.csp_pool.proofs.Rules.{takes_back}
use Rattle.csp_pool.proofs.pool.Pool.join.Goals as goal

pub join-requires-clause-rule : goal.join-requires-clause-rule
join-requires-clause-rule c = takes_back _ (view c.pass.inside.pass) _ (view c.other.inside.pass) (search rules)
