use Rattle.std.proofs.Common.{ℕ, ◌+◌, ◌-◌, ◌*◌, ◌≤◌, List, ◌++◌, length, replicate, take, drop, suc, sym, ap, ◌∙◌, subst}
use Rattle.std.specs.List.{list_all}
use Rattle.csp_hub.specs.PlainHub.{PlainEnd}
use Rattle.csp_hub.specs.Planning.{has_room}
use Rattle.csp_hub.specs.Stocking.{less}
use Rattle.csp_hub.specs.Telling.{copies_held, held_for_others}
use Rattle.csp_link.specs.Copies.{damaged, held_until}
use Rattle.csp_link.specs.declared.fates.Fate.{Fate}
use Rattle.csp_link.specs.declared.held.Held.{Held}
use Rattle.csp_log.specs.PlainSpares.{PlainSpares, with_box}
use Rattle.csp_hub.proofs.Others.{all_others, copies_made, held_by_parts, left_after, less_twice, part_after, room_after}
use Rattle.csp_hub.proofs.spread.spread.Goals as goal

pub hold_all-requires-2-clause-room : goal.hold_all-requires-2-clause-room
hold_all-requires-2-clause-room c =
    let copies : List Held = replicate c.copies-copies.result (held_until (c.args.now + c.from.result) c.damaged-frame.result) in
    ap (list_all has_room) (part_after c.args.from (copies_held copies) c.args.ends.now c.hold_all.new.ends c.requires.from c.hold_all.ensures.held) ∙ room_after c.args.from c.args.ends.now c.requires.room

pub hold_all-requires-2-clause-stock : goal.hold_all-requires-2-clause-stock
hold_all-requires-2-clause-stock c =
    let n : ℕ = c.copies-copies.result in
    let copies : List Held = replicate n (held_until (c.args.now + c.from.result) c.damaged-frame.result) in
    let part = part_after c.args.from (copies_held copies) c.args.ends.now c.hold_all.new.ends c.requires.from c.hold_all.ensures.held in
    let boxes = ap (λ (s : PlainSpares). s.boxes) c.hold_all.ensures.stock in
    let fits : (length c.args.ends.now - 1) * n ≤ c.args.spares.now.boxes =
    subst (λ k. (length c.args.ends.now - 1) * k ≤ c.args.spares.now.boxes) (sym c.copies-copies.ensures.copies) c.requires.stock in
    let all : List PlainEnd = c.hold_all.new.ends ++ drop c.args.from c.args.ends.now in
    subst (λ k. length (take (length all - (c.args.from + 1)) (drop (c.args.from + 1) all)) * n ≤ k) (sym boxes)
    (subst (λ (es : List PlainEnd). length es * n ≤ c.args.spares.now.boxes - length (take c.args.from c.args.ends.now) * n) (sym part)
    (left_after c.args.from n c.args.spares.now.boxes c.args.ends.now c.requires.from fits))

pub returns-clause-held : goal.returns-clause-held
returns-clause-held c =
    let copies : List Held = replicate c.copies-copies.result (held_until (c.args.now + c.from.result) c.damaged-frame.result) in
    let flip = ap (λ (f : Fate). f.flip) c.fate.view_is in
    let delay = ap (λ (f : Fate). f.delay) c.fate.view_is in
    held_by_parts c.args.from copies c.args.ends.now c.hold_all.new.ends c.hold_all-2.new.ends c.requires.from c.hold_all.ensures.held c.hold_all-2.ensures.held
    ∙ ap (λ (hs : List Held). held_for_others c.args.from hs c.args.ends.now)
    (copies_made c.args.fate c.args.now c.copies-copies.result c.from.result c.args.frame c.damaged-frame.result c.copies-copies.ensures.copies
    (c.from.ensures ∙ delay) (c.damaged-frame.ensures ∙ ap (λ bit. damaged bit c.args.frame) flip))

pub returns-clause-stock : goal.returns-clause-stock
returns-clause-stock c =
    let n : ℕ = c.copies-copies.result in
    let es : List PlainEnd = c.args.ends.now in
    let copies : List Held = replicate n (held_until (c.args.now + c.from.result) c.damaged-frame.result) in
    let part = part_after c.args.from (copies_held copies) es c.hold_all.new.ends c.requires.from c.hold_all.ensures.held in
    c.keep.ensures.stock
    ∙ ap with_box (
    c.hold_all-2.ensures.stock
    ∙ ap (λ (xs : List PlainEnd). less (length xs * n) c.hold_all.new.spares) part
    ∙ ap (λ (s : PlainSpares). less (length (drop (suc c.args.from) es) * n) s) c.hold_all.ensures.stock
    ∙ less_twice (length (take c.args.from es) * n) (length (drop (suc c.args.from) es) * n) ((length es - 1) * n) c.args.spares.now (all_others c.args.from n es c.requires.from)
    ∙ ap (λ k. less ((length es - 1) * k) c.args.spares.now) c.copies-copies.ensures.copies
    )
