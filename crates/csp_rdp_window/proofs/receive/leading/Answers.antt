use Rattle.std.proofs.Common.{◌+◌, ◌∙◌, ap, sym}
use Rattle.csp_rdp_window.proofs.ReceiveLemmas.{missing-here, none-from}
use Rattle.csp_rdp_window.proofs.receive.leading.Goals as goal

pub returns-then-is_none-clause-value : goal.returns-then-is_none-clause-value
returns-then-is_none-clause-value c =
    λ t. c.loop-place.invariant.1 t
    ∙ missing-here t c.args.places.now c.loop-place.place-index c.place-item.result c.loop-place-test.true c.place-item.is (none-from c.place-item.result c.if-is_none.ensures)
    ∙ ap (λ n. t + n) (sym c.loop-place.invariant.0)
