use Rattle.std.proofs.Common.{length, ap, ◌∙◌, arith}
use Rattle.csp_world.specs.Schedule.{places_in}
use Rattle.csp_world.proofs.ScheduleLemmas.{still_turns, round_made}
use Rattle.csp_world.proofs.rounds.make_round.Goals as goal

pub tick-requires : goal.tick-requires
tick-requires c =
    let w = c.args.world.now.plain in
    let still = still_turns w (places_in (length w.members) c.args.order) in
    omega (arith, ap (λ v. v.time) c.in_ok-next.ensures.turns, still.time)

pub returns-clause-round : goal.returns-clause-round
returns-clause-round c = c.tick.ensures.plain ∙ round_made c.args.world.now.plain _ c.args.order c.in_ok-next.ensures.turns
