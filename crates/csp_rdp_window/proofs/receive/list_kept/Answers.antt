use Rattle.std.proofs.Common.{◌+◌, ◌++◌, ◌∙◌, ap, sym, arith, append-nil, length}
use Rattle.csp_rdp_window.proofs.ReceiveLemmas.{listed-more, none-listed, some-listed}
use Rattle.csp_rdp_window.proofs.receive.list_kept.Goals as goal
use Rattle.csp_rdp_window.proofs.receive.list_kept.Goals.{then-is_some, else-is_some}

pub loop-place-preserved : goal.loop-place-preserved
loop-place-preserved c =
    let more = listed-more c.args.start.0 (c.args.cur + 1) c.args.places.now c.loop-place.place-index c.place-item.result c.loop-place.out.items c.if-is_some.out.items
    c.loop-place-test.true c.place-item.is c.loop-place.invariant.0 in
    elim c.if-is_some.branch [
      | then-is_some w ↦ (
        more (ap (λ o. o.items) w.out-is ∙ w.push.ensures.items
            ∙ ap (λ l. c.loop-place.out.items ++ l) (some-listed c.args.start.0 (c.args.cur + 1 + c.loop-place.place-index) c.place-item.result w.add.result (sym w.if-is_some.ensures) (omega (arith, w.add.ensures)))),
        omega arith,
        (let len = ap (λ o. length o.items) w.out-is in omega (arith, len, w.push.ensures.len)),
      )
      | else-is_some w ↦ (
        more (ap (λ o. o.items) w.out-is
            ∙ sym (append-nil c.loop-place.out.items)
            ∙ ap (λ l. c.loop-place.out.items ++ l) (sym (none-listed c.args.start.0 (c.args.cur + 1 + c.loop-place.place-index) c.place-item.result (sym w.if-is_some.ensures)))),
        omega arith,
        (let len = ap (λ o. length o.items) w.out-is in omega (arith, len)),
      )
    ]
