use Rattle.csp_buffer.specs.PlainBuffer.{PlainBuffer}
use Rattle.csp_ends.proofs.Kept.{option_keeps}
use Rattle.csp_log.specs.declared.shown.AnswerShown.TheVariants as answer
use Rattle.csp_log.specs.declared.shown.OpShown.TheVariants as op
use Rattle.csp_ends.proofs.deck.EndsDeckDeck.take.Goals as goal

pub invariant_of-self : goal.invariant_of-self
invariant_of-self g c =
    let kept = option_keeps c.args.self.now.queues.now c.args.self.now.ends.now op.Take answer.NoBuffer (λ (b : PlainBuffer). answer.Taken b.picture) c.take.result c.take.new.ends c.take.ensures.served c.args.self.now.of_it c.args.self.now.whole in
    record { of_it = kept.of_it; whole = kept.whole }

pub returns-clause-rules : goal.returns-clause-rules
returns-clause-rules g c =
    (option_keeps c.args.self.now.queues.now c.args.self.now.ends.now op.Take answer.NoBuffer (λ (b : PlainBuffer). answer.Taken b.picture) c.take.result c.take.new.ends c.take.ensures.served c.args.self.now.of_it c.args.self.now.whole).rules
