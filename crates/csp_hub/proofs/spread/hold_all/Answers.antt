use Rattle.std.proofs.Common.{◌<◌, length, replicate, slice_set, sym, ap, ◌∙◌, arith}
use Rattle.std.proofs.Math.Nat.{mul-le-mul_left}
use Rattle.std.proofs.lemmas.List.Edits.{map_over_more}
use Rattle.csp_hub.specs.PlainHub.{PlainEnd}
use Rattle.csp_hub.specs.Telling.{copies_held}
use Rattle.csp_link.specs.Copies.{held_until}
use Rattle.csp_log.specs.PlainSpares.{PlainSpares}
use Rattle.csp_hub.proofs.Others.{room_in_turn}
use Rattle.csp_hub.proofs.spread.hold_all.Goals as goal

pub hear-requires-clause-room : goal.hear-requires-clause-room
hear-requires-clause-room c =
    let within : c.loop-end.end-index < length c.args.ends.now = omega arith in
    room_in_turn (copies_held (replicate c.args.copies (held_until c.args.due c.args.frame.now))) c.loop-end.end-index c.args.ends.now c.loop-end.ends c.end-item.result
    c.requires.room within c.loop-end.invariant.held

pub loop-end-preserved : goal.loop-end-preserved
loop-end-preserved c =
    let hears : PlainEnd → PlainEnd = copies_held (replicate c.args.copies (held_until c.args.due c.args.frame.now)) in
    let within : c.loop-end.end-index < length c.args.ends.now = omega arith in
    let enough = mul-le-mul_left c.args.copies within in
    let boxes = ap (λ (s : PlainSpares). s.boxes) c.hear.ensures.stock in
    record {
      held = ap (λ (e : PlainEnd). slice_set c.loop-end.ends c.loop-end.end-index e) (c.hear.ensures.held ∙ ap hears (sym c.end-item.is))
          ∙ map_over_more hears c.args.ends.now c.loop-end.ends c.loop-end.end-index c.end-item.result within c.loop-end.invariant.held c.end-item.is;
      boxes = omega (arith, boxes, enough, c.requires.stock, c.loop-end.invariant.boxes);
      room = ap (λ (s : PlainSpares). s.room) c.hear.ensures.stock ∙ c.loop-end.invariant.room;
    }
