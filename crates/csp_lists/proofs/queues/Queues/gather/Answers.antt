use Rattle.std.proofs.Common.{◌≡◌, arith, subst}
use Rattle.std.proofs.lemmas.Grind.{common_steps}
use Rattle.std.proofs.lemmas.List.Elements.{All-head, All-rest}
use Rattle.csp_buffer.specs.Memory.{AreAllOf}
use Rattle.csp_lists.proofs.queues.Queues.gather.Goals as goal

pub loop-queue-preserved : goal.loop-queue-preserved
loop-queue-preserved c =
    let step = c.in-Some.ensures.answer in
    let before = c.loop-queue.invariant in (
      grind (arith, common_steps),
      grind (arith, common_steps),
      grind (arith, common_steps),
      grind (arith, common_steps),
      grind (arith, common_steps),
      grind (arith, common_steps),
      grind (arith, common_steps),
      grind (arith, common_steps),
      grind (arith, common_steps),
      All-rest (λ q. q.region ≡ c.args.self.region) c.in-Some.queue c.pop.new.self.items c.loop-queue.queues.items step.0 before.9,
      λ all. subst (λ r. AreAllOf r c.loop-queue.into.items → AreAllOf r c.gather.new.into.items) (All-head (λ q. q.region ≡ c.args.self.region) c.in-Some.queue c.pop.new.self.items (rw step.0 at before.9)) c.gather.ensures.of_it (before.10 all),
    )
