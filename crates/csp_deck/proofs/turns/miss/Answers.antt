use Rattle.csp_deck.proofs.turns.miss.Goals as goal

pub miss-requires-clause-fits : goal.miss-requires-clause-fits
miss-requires-clause-fits g c = rw c.requires.awaits tt

pub miss-requires-clause-waiting : goal.miss-requires-clause-waiting
miss-requires-clause-waiting g c = c.requires.waiting

pub miss-requires-clause-early : goal.miss-requires-clause-early
miss-requires-clause-early g c = c.requires.early

pub miss-requires-clause-countable : goal.miss-requires-clause-countable
miss-requires-clause-countable g c = c.requires.countable

pub miss-requires-clause-stock : goal.miss-requires-clause-stock
miss-requires-clause-stock g c = c.requires.stock

pub returns-clause-ready : goal.returns-clause-ready
returns-clause-ready g c = c.miss.ensures.ready

pub returns-clause-uses : goal.returns-clause-uses
returns-clause-uses g c = c.miss.ensures.uses

pub returns-clause-region : goal.returns-clause-region
returns-clause-region g c = c.miss.ensures.region

pub returns-clause-needs : goal.returns-clause-needs
returns-clause-needs g c = c.miss.ensures.needs

pub returns-clause-least : goal.returns-clause-least
returns-clause-least g c = c.miss.ensures.least

pub returns-clause-most : goal.returns-clause-most
returns-clause-most g c = c.miss.ensures.most

pub returns-clause-party : goal.returns-clause-party
returns-clause-party g c = c.miss.ensures.state

pub returns-clause-counted : goal.returns-clause-counted
returns-clause-counted g c = c.miss.ensures.count
