use Rattle.csp_posts.specs.Ready.{HasTurned}
use Rattle.csp_posts.proofs.post.PostWorker.round.Given as goal

abbrev pub invariant-loop : goal.invariant-loop
invariant-loop g l = HasTurned l.shared l.now l.counter l.fn.self l.self
