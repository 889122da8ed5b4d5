use Rattle.csp_deck.proofs.turns.serve.Goals as goal

pub returns-in-Nothing-clause-rules : goal.returns-in-Nothing-clause-rules
returns-in-Nothing-clause-rules g c = c.rest.ensures.rules

pub returns-in-Nothing-clause-region : goal.returns-in-Nothing-clause-region
returns-in-Nothing-clause-region g c = c.rest.ensures.region

pub returns-in-Some-clause-rules : goal.returns-in-Some-clause-rules
returns-in-Some-clause-rules g c = c.in-Some.ensures.rules

pub returns-in-Some-clause-region : goal.returns-in-Some-clause-region
returns-in-Some-clause-region g c = c.in-Some.ensures.region

pub returns-in-None-clause-rules : goal.returns-in-None-clause-rules
returns-in-None-clause-rules g c = c.in-None.ensures.rules

pub returns-in-None-clause-region : goal.returns-in-None-clause-region
returns-in-None-clause-region g c = c.in-None.ensures.region

pub returns-in-Give-clause-rules : goal.returns-in-Give-clause-rules
returns-in-Give-clause-rules g c = c.give.ensures.rules

pub returns-in-Give-clause-region : goal.returns-in-Give-clause-region
returns-in-Give-clause-region g c = c.give.ensures.region

pub returns-in-Push-clause-rules : goal.returns-in-Push-clause-rules
returns-in-Push-clause-rules g c = c.push.ensures.rules

pub returns-in-Push-clause-region : goal.returns-in-Push-clause-region
returns-in-Push-clause-region g c = c.push.ensures.region

pub returns-in-Some-pop-clause-rules : goal.returns-in-Some-pop-clause-rules
returns-in-Some-pop-clause-rules g c = c.in-Some-pop.ensures.rules

pub returns-in-Some-pop-clause-region : goal.returns-in-Some-pop-clause-region
returns-in-Some-pop-clause-region g c = c.in-Some-pop.ensures.region

pub returns-in-None-pop-clause-rules : goal.returns-in-None-pop-clause-rules
returns-in-None-pop-clause-rules g c = c.in-None-pop.ensures.rules

pub returns-in-None-pop-clause-region : goal.returns-in-None-pop-clause-region
returns-in-None-pop-clause-region g c = c.in-None-pop.ensures.region
