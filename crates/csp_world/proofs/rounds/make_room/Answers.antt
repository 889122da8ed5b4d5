use Rattle.std.proofs.Common.{ap, arith}
use Rattle.csp_world.specs.World.{entries}
use Rattle.csp_world.proofs.ScheduleLemmas.{log_within}
use Rattle.csp_world.proofs.rounds.make_room.Goals as goal

pub reserve-requires-clause-fits : goal.reserve-requires-clause-fits
reserve-requires-clause-fits c =
    let within = log_within c.loop-place.world.plain c.loop-place.place in
    let same = ap entries c.loop-place.invariant.plain in
    omega (arith, within, same, c.requires)
