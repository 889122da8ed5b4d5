use Rattle.std.proofs.Common.{rules}
use Rattle.crossbeam_queue.specs.Passes.{view}
use Rattle.csp_pool.proofs.Rules.{gives, fills}
use Rattle.csp_pool.proofs.pool.Pool.give.Goals as goal

pub push_as-requires-clause-push : goal.push_as-requires-clause-push
push_as-requires-clause-push g c = gives _ _ (view c.pass.inside.pass) c.args.buffer c.pass.invariant.1 (search rules)

pub push_as-requires-clause-full : goal.push_as-requires-clause-full
push_as-requires-clause-full g c = fills _ _ _
