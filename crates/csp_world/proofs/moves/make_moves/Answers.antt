use Rattle.std.proofs.Common.{ap, sym, ◌∙◌, arith}
use Rattle.csp_world.specs.World.{entries}
use Rattle.csp_world.specs.Schedule.{names}
use Rattle.csp_world.proofs.MoveLemmas.{made_move, move_made, moves_done}
use Rattle.csp_world.proofs.moves.make_moves.Goals as goal

pub loop-next-preserved : goal.loop-next-preserved
loop-next-preserved c =
    let w = c.loop-next.world.plain in
    let went = c.in_ok-make_move.ensures.moved in
    let made = made_move w _ in
    record {
      left = move_made w _ c.args.moves.now c.loop-next.next-index _ c.loop-next-test.true went ∙ c.loop-next.invariant.left;
      names = ap names went ∙ made.names ∙ c.loop-next.invariant.names;
      counts = c.in_ok-make_move.ensures.counts ∙ c.loop-next.invariant.counts;
      time = omega (arith, ap (λ v. v.time) went, made.time, c.loop-next.invariant.time);
      fits = omega (arith, ap entries went, made.entries, c.loop-next.invariant.fits);
    }

pub returns-clause-moves : goal.returns-clause-moves
returns-clause-moves c = sym (moves_done c.loop-next.world.plain c.args.moves.now c.loop-next.next-index c.loop-next-test.false) ∙ c.loop-next.invariant.left
