use Rattle.csp_party.proofs.any.AnyPartyParty.look.Goals as goal

pub returns-in-Router-clause-holds : goal.returns-in-Router-clause-holds
returns-in-Router-clause-holds c k = rw c.in-Router.is (c.look.ensures.holds k)
