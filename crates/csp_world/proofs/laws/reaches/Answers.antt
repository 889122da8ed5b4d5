use Rattle.csp_world.proofs.ReachingLemmas.{reached_opening, reached_run, reached_tick, reached_turn}
use Rattle.csp_world.proofs.laws.reaches.Goals as goal

pub returns : goal.returns
returns c = record { opening = reached_opening; turn = reached_turn; tick = reached_tick; run = reached_run }
