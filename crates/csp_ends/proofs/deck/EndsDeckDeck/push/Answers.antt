use Rattle.csp_ends.proofs.Kept.{result_keeps}
use Rattle.csp_log.specs.Pictures.{shown_item}
use Rattle.csp_log.specs.declared.item.Item.{Item}
use Rattle.csp_log.specs.declared.places.QueueId.TheVariants as queue
use Rattle.csp_log.specs.declared.shown.AnswerShown.TheVariants as answer
use Rattle.csp_log.specs.declared.shown.OpShown.TheVariants as op
use Rattle.csp_ends.proofs.deck.EndsDeckDeck.push.Goals as goal

pub invariant_of-self : goal.invariant_of-self
invariant_of-self g c =
    let kept = result_keeps c.args.self.now.queues.now c.args.self.now.ends.now (op.Push queue.Inbox (shown_item c.args.item)) (λ (_ : Unit {0}). answer.Pushed) (λ (i : Item). answer.Full (shown_item i)) c.post.result c.post.new.ends c.post.ensures.served c.args.self.now.of_it c.args.self.now.whole in
    record { of_it = kept.of_it; whole = kept.whole }

pub invariant_of-self-else-is_inbox : goal.invariant_of-self-else-is_inbox
invariant_of-self-else-is_inbox g c =
    let kept = result_keeps c.args.self.now.queues.now c.args.self.now.ends.now (op.Push c.args.queue (shown_item c.args.item)) (λ (_ : Unit {0}). answer.Pushed) (λ (i : Item). answer.Full (shown_item i)) c.put.result c.put.new.ends c.put.ensures.served c.args.self.now.of_it c.args.self.now.whole in
    record { of_it = kept.of_it; whole = kept.whole }

pub returns-then-is_inbox-clause-rules : goal.returns-then-is_inbox-clause-rules
returns-then-is_inbox-clause-rules g c =
    (result_keeps c.args.self.now.queues.now c.args.self.now.ends.now (op.Push queue.Inbox (shown_item c.args.item)) (λ (_ : Unit {0}). answer.Pushed) (λ (i : Item). answer.Full (shown_item i)) c.post.result c.post.new.ends c.post.ensures.served c.args.self.now.of_it c.args.self.now.whole).rules

pub returns-else-is_inbox-clause-rules : goal.returns-else-is_inbox-clause-rules
returns-else-is_inbox-clause-rules g c =
    (result_keeps c.args.self.now.queues.now c.args.self.now.ends.now (op.Push c.args.queue (shown_item c.args.item)) (λ (_ : Unit {0}). answer.Pushed) (λ (i : Item). answer.Full (shown_item i)) c.put.result c.put.new.ends c.put.ensures.served c.args.self.now.of_it c.args.self.now.whole).rules
