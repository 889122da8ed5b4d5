use Rattle.csp_party.proofs.any.AnyPartyParty.told.Goals as goal

pub returns-in-Router-clause-holds : goal.returns-in-Router-clause-holds
returns-in-Router-clause-holds c k = rw c.in-Router.is (c.told.ensures.holds k)

pub returns-in-Bridge-clause-holds : goal.returns-in-Bridge-clause-holds
returns-in-Bridge-clause-holds c k = rw c.in-Bridge.is (c.told-in-Bridge.ensures.holds k)

pub returns-in-Iface-clause-holds : goal.returns-in-Iface-clause-holds
returns-in-Iface-clause-holds c k = rw c.in-Iface.is (c.told-in-Iface.ensures.holds k)

pub returns-in-App-clause-holds : goal.returns-in-App-clause-holds
returns-in-App-clause-holds c k = rw c.in-App.is (c.told-in-App.ensures.holds k)
