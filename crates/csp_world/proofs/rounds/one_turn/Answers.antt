use Rattle.std.proofs.Common.{arith}
use Rattle.csp_world.proofs.ScheduleLemmas.{log_within}
use Rattle.csp_world.proofs.rounds.one_turn.Goals as goal

pub reserve-requires-clause-fits : goal.reserve-requires-clause-fits
reserve-requires-clause-fits c = omega (arith, log_within c.args.world.now.plain c.args.place)
