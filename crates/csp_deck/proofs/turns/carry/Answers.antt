use Rattle.std.proofs.Common.{◌≡◌, refl, ◌∙◌}
use Rattle.csp_log.specs.PlainLog.{with_entry}
use Rattle.csp_log.specs.Pictures.{shown_op, shown_answer}
use Rattle.csp_deck.specs.Step.{entry_of}
use Rattle.csp_deck.proofs.Serving.{CanServe-there, IsAnswerOf-back}
use Rattle.csp_deck.proofs.turns.carry.Goals as goal

pub serve-answer-requires-clause-served : goal.serve-answer-requires-clause-served
serve-answer-requires-clause-served g c =
    CanServe-there (g.P.Party.uses c.args.party.now) (g.D.Deck.rule c.args.deck.now) (shown_op c.args.op) c.requires.served c.requires.asked

pub told-requires-clause-fits : goal.told-requires-clause-fits
told-requires-clause-fits g c =
    rw c.requires.awaits
    (IsAnswerOf-back (g.P.Party.uses c.args.party.now) (g.D.Deck.rule c.args.deck.now) (shown_op c.args.op) (shown_answer c.serve-answer.result) c.requires.served c.requires.asked c.serve-answer.ensures.carried)

-- the log with the entry of this turn
logged : (g : _) (c : goal.After-append g) → c.append.new.self ≡ with_entry c.args.log.now (entry_of c.args.now (shown_op c.args.op) (shown_answer c.serve-answer.result) (g.P.Party.events c.args.party.now c.args.now (shown_answer c.serve-answer.result)))
logged g c = c.append.ensures ∙ rw (c.answer.ensures, c.ask.ensures, c.told.ensures.events) refl

pub returns-clause-went : goal.returns-clause-went
returns-clause-went g c = (
  shown_answer c.serve-answer.result,
  c.serve-answer.ensures.answers,
  c.serve-answer.ensures.fits,
  c.serve-answer.ensures.cause,
  c.told.ensures.state,
  logged g c,
  c.turn-turn.ensures,
  c.told.ensures.holds,
)

pub told-requires-clause-waiting : goal.told-requires-clause-waiting
told-requires-clause-waiting g c = c.requires.waiting

pub told-requires-clause-early : goal.told-requires-clause-early
told-requires-clause-early g c = c.requires.early

pub told-requires-clause-countable : goal.told-requires-clause-countable
told-requires-clause-countable g c = c.requires.countable

pub told-requires-clause-stock : goal.told-requires-clause-stock
told-requires-clause-stock g c = c.requires.stock

pub returns-clause-ready : goal.returns-clause-ready
returns-clause-ready g c = c.told.ensures.ready

pub returns-clause-uses : goal.returns-clause-uses
returns-clause-uses g c = c.told.ensures.uses

pub returns-clause-needs : goal.returns-clause-needs
returns-clause-needs g c = c.told.ensures.needs

pub returns-clause-least : goal.returns-clause-least
returns-clause-least g c = c.told.ensures.least

pub returns-clause-most : goal.returns-clause-most
returns-clause-most g c = c.told.ensures.most

pub returns-clause-counted : goal.returns-clause-counted
returns-clause-counted g c = c.told.ensures.count

pub returns-clause-rules : goal.returns-clause-rules
returns-clause-rules g c = c.serve-answer.ensures.rules

pub returns-clause-region : goal.returns-clause-region
returns-clause-region g c = (c.told.ensures.region, c.serve-answer.ensures.region)
