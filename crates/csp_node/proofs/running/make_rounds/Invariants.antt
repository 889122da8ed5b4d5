use Rattle.csp_node.specs.Rounds.{IsBetween}
use Rattle.csp_node.proofs.running.make_rounds.Given as goal

-- so many rounds were made
abbrev pub invariant-loop-round : goal.invariant-loop-round
invariant-loop-round g l = IsBetween l.scene l.network.fabric l.limit l.round l.posts
