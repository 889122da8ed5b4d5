use Rattle.csp_party.proofs.any.AnyPartyParty.ask.Goals as goal

pub returns-in-Router-clause-holds : goal.returns-in-Router-clause-holds
returns-in-Router-clause-holds c k = rw c.in-Router.is (c.ask.ensures.holds k)

pub returns-in-App-clause-holds : goal.returns-in-App-clause-holds
returns-in-App-clause-holds c k = rw c.in-App.is (c.ask-in-App.ensures.holds k)
