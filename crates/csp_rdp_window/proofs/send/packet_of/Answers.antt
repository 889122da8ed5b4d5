use Rattle.std.proofs.Common.{eq-eqb}
use Rattle.std.proofs.lemmas.Bool.{ne_eqb}
use Rattle.std.specs.Prelude.{◌==◌}
use Rattle.csp_rdp_window.proofs.PlaceLemmas.{found, passed}
use Rattle.csp_rdp_window.proofs.send.packet_of.Goals as goal
use Rattle.csp_rdp_window.proofs.send.packet_of.Goals.{in_default-via-in-None-1, in_default-via-in-Some+else-packet-index}

pub returns-in-loop-place : goal.returns-in-loop-place
returns-in-loop-place c =
    found (λ p. p.index == c.args.index) c.args.places.now c.loop-place.place-index c.place-item.result c.in-Some.packet
    c.loop-place-test.true c.place-item.is c.in-Some.is (eq-eqb c.in-Some.packet.index c.args.index c.if-packet-index.true) c.loop-place.invariant

pub loop-place-preserved : goal.loop-place-preserved
loop-place-preserved c =
    passed (λ p. p.index == c.args.index) c.args.places.now c.loop-place.place-index c.place-item.result
    c.loop-place-test.true c.place-item.is
    (elim c.in_default.branch [ in_default-via-in-None-1 w ↦ cc | in_default-via-in-Some+else-packet-index w ↦ cc (ne_eqb w.in-Some.packet.index c.args.index w.if-packet-index.false) ])
    c.loop-place.invariant
