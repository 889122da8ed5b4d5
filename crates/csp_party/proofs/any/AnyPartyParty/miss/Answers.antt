use Rattle.csp_party.proofs.any.AnyPartyParty.miss.Goals as goal

pub returns-in-Router-clause-holds : goal.returns-in-Router-clause-holds
returns-in-Router-clause-holds c k = rw c.in-Router.is (c.miss.ensures.holds k)

pub returns-in-Bridge-clause-holds : goal.returns-in-Bridge-clause-holds
returns-in-Bridge-clause-holds c k = rw c.in-Bridge.is (c.miss-in-Bridge.ensures.holds k)

pub returns-in-Iface-clause-holds : goal.returns-in-Iface-clause-holds
returns-in-Iface-clause-holds c k = rw c.in-Iface.is (c.miss-in-Iface.ensures.holds k)

pub returns-in-App-clause-holds : goal.returns-in-App-clause-holds
returns-in-App-clause-holds c k = rw c.in-App.is (c.miss-in-App.ensures.holds k)
