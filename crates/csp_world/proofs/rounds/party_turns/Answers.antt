use Rattle.std.proofs.Common.{◌+◌, ◌-◌, length, ap, refl, sym, ◌∙◌, arith}
use Rattle.std.specs.Prelude.{replicate}
use Rattle.csp_world.specs.declared.limits.TheConstants.{TURNS_PER_ROUND}
use Rattle.csp_world.specs.Schedule.{turns}
use Rattle.csp_world.proofs.ScheduleLemmas.{some_taken, steady_turn, still_turns, turn_made, turns_done}
use Rattle.csp_world.proofs.rounds.party_turns.Goals as goal

pub loop-init : goal.loop-init
loop-init c = record {
  left = refl;
  parties = refl;
  room = omega (arith, c.requires.room, c.look_round-taken.ensures.spares);
  counts = refl;
  others = λ k ne. refl;
}

pub loop-preserved : goal.loop-preserved
loop-preserved c =
    let w = c.loop.world.plain in
    let place = c.args.place in
    let i = c.loop.counter in
    let went = c.step.ensures in
    record {
      left = ap (λ v. turns v (replicate (TURNS_PER_ROUND - (i + 1)) place)) went.plain ∙ turn_made w place i c.loop-test.true ∙ c.loop.invariant.left;
      parties = ap (λ v. length v.members) went.plain ∙ (steady_turn w place).members ∙ c.loop.invariant.parties;
      room = omega (arith, went.spares);
      counts = went.counts ∙ c.loop.invariant.counts;
      others = λ k ne. went.others k ne ∙ c.loop.invariant.others k ne;
    }

pub step-requires-clause-party : goal.step-requires-clause-party
step-requires-clause-party c =
    let parties = c.loop.invariant.parties ∙ ap (λ v. length v.members) c.look_round-taken.ensures.plain ∙ (still_turns c.args.world.now.plain (replicate c.look_round-taken.result c.args.place)).members in
    rw (parties) c.requires.place

pub returns-clause-plain : goal.returns-clause-plain
returns-clause-plain c =
    sym (turns_done c.loop.world.plain (TURNS_PER_ROUND - c.loop.counter) c.args.place (omega arith))
    ∙ c.loop.invariant.left
    ∙ some_taken c.args.world.now.plain c.look_round-taken.new.self.plain c.args.place c.look_round-taken.result c.look_round-taken.ensures.most c.look_round-taken.ensures.plain
