use Rattle.std.proofs.Common.{◌≡◌, ◌∙◌, ap, sym, List, length}
use Rattle.std.proofs.lemmas.List.{length-map}
use Rattle.csp_lists.specs.PlainDeck.{PlainDeck, PlainQueue, answer_of, emptied, rule_of}
use Rattle.csp_log.specs.declared.shown.OpShown.{OpShown}
use Rattle.csp_nodes.proofs.ServingLaws.{kept, rules_kept, rule_same}
use Rattle.csp_nodes.specs.Serving.{answer_in, goes, seen_by}
use Rattle.csp_nodes.proofs.laws.keeps_shape.Goals as goal

pub returns-clause-rules : goal.returns-clause-rules
returns-clause-rules c = λ decks links w o x q.
    ap (seen_by x) (rule_same decks (answer_in decks links w o).1
    (λ name. kept (λ d. rule_of d name) (λ (d : PlainDeck) (p : OpShown). rules_kept d (answer_of d p).1 (c.keeps_shape.ensures.queues d p) (c.keeps_shape.ensures.shape d p) name) decks links w o)
    (goes links x q))

pub returns-clause-rooms : goal.returns-clause-rooms
returns-clause-rooms c = λ decks links w o. kept (λ d. d.pool.room) (λ d p. c.keeps_shape.ensures.pool d p) decks links w o

pub returns-clause-queues : goal.returns-clause-queues
returns-clause-queues c = λ decks links w o.
    kept (λ d. length d.queues) (λ (d : PlainDeck) (p : OpShown). sym (length-map (answer_of d p).1.queues emptied) ∙ ap (λ (qs : List PlainQueue). length qs) (c.keeps_shape.ensures.queues d p) ∙ length-map d.queues emptied) decks links w o
