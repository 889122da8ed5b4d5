use Rattle.std.proofs.Common.{arith}
use Rattle.csp_scene.proofs.Growing.{links_few}
use Rattle.csp_scene.proofs.schedule.owned_move.Goals as goal

pub overflow_cast-result-in-Some : goal.overflow_cast-result-in-Some
overflow_cast-result-in-Some c = omega (arith, c.in-Some.ensures.inside, links_few c.args.place c.args.links.now)
