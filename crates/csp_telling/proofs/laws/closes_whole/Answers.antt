use Rattle.csp_telling.proofs.WholeNotes.{whole}
use Rattle.csp_telling.proofs.laws.closes_whole.Goals as goal

pub returns : goal.returns
returns c = λ scene n posts r is links net closed. whole scene n posts r
    (record { net = net; closed = closed; counted = c.orders_wires.ensures.count scene; ordered = c.orders_wires.ensures.order scene is links })
    c.weighs.ensures.weight (λ all are. c.returns_all.ensures scene n posts all is links net are)
