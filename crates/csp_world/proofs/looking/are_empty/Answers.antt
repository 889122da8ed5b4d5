use Rattle.std.proofs.Common.{◌∙◌, subst, arith}
use Rattle.std.proofs.lemmas.List.{take_all}
use Rattle.csp_world.specs.Looking.{AreEmpty}
use Rattle.csp_world.proofs.LookingLemmas.{empty_more, found_empty}
use Rattle.csp_world.proofs.looking.are_empty.Goals as goal

pub loop-queue-preserved : goal.loop-queue-preserved
loop-queue-preserved c =
    let answers = c.misses.ensures.answer c.if-not-misses.false in
    record {
      lists = found_empty _ _ _ answers ∙ c.loop-queue.invariant.lists;
      empty = empty_more _ _ _ c.args.queues.now c.loop-queue.queue-index _ c.loop-queue-test.true c.loop-queue.invariant.lists answers c.loop-queue.invariant.empty;
    }

pub returns-clause-empty : goal.returns-clause-empty
returns-clause-empty c = λ _. subst (AreEmpty c.args.decks.now) (take_all c.loop-queue.queue-index c.args.queues.now (omega arith)) c.loop-queue.invariant.empty
