use Rattle.std.proofs.Common.{rules}
use Rattle.crossbeam_queue.specs.Passes.{view}
use Rattle.csp_pool.proofs.Rules.{parts}
use Rattle.csp_pool.proofs.pool.Pool.split.Goals as goal

pub split-requires-clause-rule : goal.split-requires-clause-rule
split-requires-clause-rule c = parts _ (view c.pass.inside.pass) (search rules)
