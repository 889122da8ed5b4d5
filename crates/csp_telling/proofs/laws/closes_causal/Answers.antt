use Rattle.csp_telling.proofs.CausesLeft.{causal}
use Rattle.csp_telling.proofs.laws.closes_causal.Goals as goal

pub returns : goal.returns
returns c = λ scene n posts r is links net closed. causal scene n posts r
    (record { net = net; closed = closed; counted = c.orders_wires.ensures.count scene; ordered = c.orders_wires.ensures.order scene is links })
    (record { wires = c.wires_lanes.ensures scene is links; apart = c.names_parties_apart.ensures scene })
