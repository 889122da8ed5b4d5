use Rattle.std.proofs.Common.{◌∙◌, sym, ap}
use Rattle.std.specs.Option.{option_map}
use Rattle.csp_rdp_window.specs.Sending.{is_due}
use Rattle.csp_rdp_window.proofs.PlaceLemmas.{found, passed}
use Rattle.csp_rdp_window.proofs.send.first_due.Goals as goal
use Rattle.csp_rdp_window.proofs.send.first_due.Goals.{in_default-via-in-None-1, in_default-via-in-Some+else-is_due}

pub returns-in-loop-place : goal.returns-in-loop-place
returns-in-loop-place c =
    ap (option_map (λ p. p.index))
    (sym (found (is_due c.args.now c.args.timeout) c.args.places.now c.loop-place.place-index c.place-item.result c.in-Some.packet
    c.loop-place-test.true c.place-item.is c.in-Some.is (sym c.is_due.ensures ∙ c.if-is_due.true) c.loop-place.invariant))

pub loop-place-preserved : goal.loop-place-preserved
loop-place-preserved c =
    passed (is_due c.args.now c.args.timeout) c.args.places.now c.loop-place.place-index c.place-item.result
    c.loop-place-test.true c.place-item.is
    (elim c.in_default.branch [ in_default-via-in-None-1 w ↦ cc | in_default-via-in-Some+else-is_due w ↦ cc ])
    c.loop-place.invariant
