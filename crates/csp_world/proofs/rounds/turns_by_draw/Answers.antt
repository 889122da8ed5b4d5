use Rattle.std.proofs.Common.{◌-◌, ◌*◌, length, ap, sym, ◌∙◌, arith}
use Rattle.csp_world.specs.declared.limits.TheConstants.{TURNS_PER_ROUND}
use Rattle.csp_draw.specs.Draws.{drawn}
use Rattle.csp_world.specs.Schedule.{turns, drawn_places, draws}
use Rattle.csp_world.specs.World.{turn, entries}
use Rattle.csp_world.proofs.ScheduleLemmas.{steady_turn, draw_made, draws_done, number_made, number_done}
use Rattle.csp_world.proofs.rounds.turns_by_draw.Goals as goal

pub loop-preserved : goal.loop-preserved
loop-preserved c =
    let w = c.loop.world.plain in
    let parties = c.parties-parties.result in
    let number = c.next_draw-number.result in
    let all = TURNS_PER_ROUND * parties in
    let went = c.in_ok-one_turn.ensures.turn ∙ ap (turn w) c.drawn.ensures.choice in
    let steady = steady_turn w (drawn parties number) in
    record {
      left = draw_made w _ parties all c.loop.counter c.loop.number number c.loop-test.true c.next_draw-number.ensures went ∙ c.loop.invariant.left;
      number = number_made all c.loop.counter c.loop.number number c.loop-test.true c.next_draw-number.ensures ∙ c.loop.invariant.number;
      parties = ap (λ v. length v.members) went ∙ steady.members ∙ c.loop.invariant.parties;
      counts = c.in_ok-one_turn.ensures.counts ∙ c.loop.invariant.counts;
      fits = omega (arith, ap entries went, steady.entries, c.loop.invariant.fits);
    }

pub returns-clause-turns : goal.returns-clause-turns
returns-clause-turns c =
    let parties = c.parties-parties.result in
    sym (draws_done c.loop.world.plain parties (TURNS_PER_ROUND * parties - c.loop.counter) c.loop.number (omega arith))
    ∙ c.loop.invariant.left
    ∙ ap (λ n. turns c.args.world.now.plain (drawn_places n (TURNS_PER_ROUND * n) c.args.last)) c.parties-parties.ensures

pub returns-clause-number : goal.returns-clause-number
returns-clause-number c =
    sym (number_done (TURNS_PER_ROUND * c.parties-parties.result - c.loop.counter) c.loop.number (omega arith))
    ∙ c.loop.invariant.number
    ∙ ap (λ n. draws (TURNS_PER_ROUND * n) c.args.last) c.parties-parties.ensures
