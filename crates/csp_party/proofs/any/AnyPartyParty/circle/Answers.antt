use Rattle.std.proofs.Common.{refl}
use Rattle.csp_party.specs.declared.any.AnyParty.TheVariants as party
use Rattle.csp_party.proofs.Circling.{same_looks}
use Rattle.csp_party.proofs.any.AnyPartyParty.circle.Goals as goal

pub returns-in-Router-clause-looks : goal.returns-in-Router-clause-looks
returns-in-Router-clause-looks c =
    rw (c.in-Router.is) (same_looks _ _ party.Router c.args.now (record { has_ended = λ _. refl; asks = λ _. refl; events = λ _. refl; missed = λ _. refl }) c.circle.result.items c.in-Router.router c.in-Router.router c.circle.ensures.looks)

pub returns-in-Bridge-clause-looks : goal.returns-in-Bridge-clause-looks
returns-in-Bridge-clause-looks c =
    rw (c.in-Bridge.is) (same_looks _ _ party.Bridge c.args.now (record { has_ended = λ _. refl; asks = λ _. refl; events = λ _. refl; missed = λ _. refl }) c.circle-in-Bridge.result.items c.in-Bridge.bridge c.in-Bridge.bridge c.circle-in-Bridge.ensures.looks)

pub returns-in-Iface-clause-looks : goal.returns-in-Iface-clause-looks
returns-in-Iface-clause-looks c =
    rw (c.in-Iface.is) (same_looks _ _ party.Iface c.args.now (record { has_ended = λ _. refl; asks = λ _. refl; events = λ _. refl; missed = λ _. refl }) c.circle-in-Iface.result.items c.in-Iface.iface c.in-Iface.iface c.circle-in-Iface.ensures.looks)

pub returns-in-App-clause-looks : goal.returns-in-App-clause-looks
returns-in-App-clause-looks c =
    rw (c.in-App.is) (same_looks _ _ party.App c.args.now (record { has_ended = λ _. refl; asks = λ _. refl; events = λ _. refl; missed = λ _. refl }) c.circle-in-App.result.items c.in-App.app c.in-App.app c.circle-in-App.ensures.looks)

pub returns-in-Link-clause-looks : goal.returns-in-Link-clause-looks
returns-in-Link-clause-looks c =
    rw (c.in-Link.is) (same_looks _ _ party.Link c.args.now (record { has_ended = λ _. refl; asks = λ _. refl; events = λ _. refl; missed = λ _. refl }) c.circle-in-Link.result.items c.in-Link.link c.in-Link.link c.circle-in-Link.ensures.looks)

pub returns-in-Hub-clause-looks : goal.returns-in-Hub-clause-looks
returns-in-Hub-clause-looks c =
    rw (c.in-Hub.is) (same_looks _ _ party.Hub c.args.now (record { has_ended = λ _. refl; asks = λ _. refl; events = λ _. refl; missed = λ _. refl }) c.circle-in-Hub.result.items c.in-Hub.hub c.in-Hub.hub c.circle-in-Hub.ensures.looks)
