use Rattle.csp_deck.proofs.party.Party.miss.Goals as goal

pub told-requires-clause-waiting : goal.told-requires-clause-waiting
told-requires-clause-waiting g c = c.requires.waiting

pub told-requires-clause-fits : goal.told-requires-clause-fits
told-requires-clause-fits g c = c.requires.fits

pub told-requires-clause-early : goal.told-requires-clause-early
told-requires-clause-early g c = c.requires.early

pub told-requires-clause-countable : goal.told-requires-clause-countable
told-requires-clause-countable g c = c.requires.countable

pub told-requires-clause-unwritten : goal.told-requires-clause-unwritten
told-requires-clause-unwritten g c = c.requires.unwritten

pub told-requires-clause-stock : goal.told-requires-clause-stock
told-requires-clause-stock g c = c.requires.stock

pub told-requires-clause-of_it : goal.told-requires-clause-of_it
told-requires-clause-of_it g c = tt

pub returns-clause-events : goal.returns-clause-events
returns-clause-events g c = c.told.ensures.events

pub returns-clause-state : goal.returns-clause-state
returns-clause-state g c = c.told.ensures.state

pub returns-clause-ready : goal.returns-clause-ready
returns-clause-ready g c = c.told.ensures.ready

pub returns-clause-uses : goal.returns-clause-uses
returns-clause-uses g c = c.told.ensures.uses

pub returns-clause-region : goal.returns-clause-region
returns-clause-region g c = c.told.ensures.region

pub returns-clause-count : goal.returns-clause-count
returns-clause-count g c = c.told.ensures.count

pub returns-clause-needs : goal.returns-clause-needs
returns-clause-needs g c = c.told.ensures.needs

pub returns-clause-stock : goal.returns-clause-stock
returns-clause-stock g c = c.told.ensures.stock

pub returns-clause-least : goal.returns-clause-least
returns-clause-least g c = c.told.ensures.least

pub returns-clause-most : goal.returns-clause-most
returns-clause-most g c = c.told.ensures.most
