use Rattle.csp_ends.proofs.Kept.{option_keeps}
use Rattle.csp_log.specs.Pictures.{shown_item}
use Rattle.csp_log.specs.declared.item.Item.{Item}
use Rattle.csp_log.specs.declared.places.QueueId.TheVariants as queue
use Rattle.csp_log.specs.declared.shown.AnswerShown.TheVariants as answer
use Rattle.csp_log.specs.declared.shown.OpShown.TheVariants as op
use Rattle.csp_ends.proofs.deck.EndsDeckDeck.pop.Goals as goal

pub invariant_of-self : goal.invariant_of-self
invariant_of-self g c =
    let kept = option_keeps c.args.self.now.queues.now c.args.self.now.ends.now (op.Pop queue.Inbox) answer.Empty (λ (i : Item). answer.Popped (shown_item i)) c.receive.result c.receive.new.ends c.receive.ensures.served c.args.self.now.of_it c.args.self.now.whole in
    record { of_it = kept.of_it; whole = kept.whole }

pub invariant_of-self-else-is_inbox : goal.invariant_of-self-else-is_inbox
invariant_of-self-else-is_inbox g c =
    let kept = option_keeps c.args.self.now.queues.now c.args.self.now.ends.now (op.Pop c.args.queue) answer.Empty (λ (i : Item). answer.Popped (shown_item i)) c.get.result c.get.new.ends c.get.ensures.served c.args.self.now.of_it c.args.self.now.whole in
    record { of_it = kept.of_it; whole = kept.whole }

pub returns-then-is_inbox-clause-rules : goal.returns-then-is_inbox-clause-rules
returns-then-is_inbox-clause-rules g c =
    (option_keeps c.args.self.now.queues.now c.args.self.now.ends.now (op.Pop queue.Inbox) answer.Empty (λ (i : Item). answer.Popped (shown_item i)) c.receive.result c.receive.new.ends c.receive.ensures.served c.args.self.now.of_it c.args.self.now.whole).rules

pub returns-else-is_inbox-clause-rules : goal.returns-else-is_inbox-clause-rules
returns-else-is_inbox-clause-rules g c =
    (option_keeps c.args.self.now.queues.now c.args.self.now.ends.now (op.Pop c.args.queue) answer.Empty (λ (i : Item). answer.Popped (shown_item i)) c.get.result c.get.new.ends c.get.ensures.served c.args.self.now.of_it c.args.self.now.whole).rules
