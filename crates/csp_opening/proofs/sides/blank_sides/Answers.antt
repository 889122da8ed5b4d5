use Rattle.std.proofs.Common.{◌≡◌, ◌≤◌, ◌∷◌, [], ℕ, List, length, sym, subst, ap, arith}
use Rattle.std.specs.Global.{Vec}
use Rattle.std.specs.List.{sum_by}
use Rattle.std.specs.Prelude.{vec_capacity}
use Rattle.std.proofs.lemmas.List.{length-append}
use Rattle.csp_ends.specs.Ends.{PlainSide}
use Rattle.csp_opening.proofs.Given.{list_pushed, room_pushed}
use Rattle.csp_opening.specs.Handed.{ends_among, list_at, room_at}
use Rattle.csp_topology.specs.declared.wire.Wire.{Wire}
use Rattle.csp_opening.proofs.sides.blank_sides.Goals as goal

pub loop-place-preserved : goal.loop-place-preserved
loop-place-preserved c =
    let before = c.loop-place.invariant in
    let place = c.loop-place.place in
    let old = c.loop-place.sides.items in
    let v = c.in_ok-blank_side.field-0 in
    let items = c.push_reserved.ensures.items in
    let more = ap (λ (xs : List (Vec PlainSide)). length xs) items in
    let two = length-append old (v ∷ []) in
    let count = before.count in
    let len = before.len in
    let longer = c.push_reserved.ensures.len in
    let cap = c.push_reserved.ensures.capacity in
    let space = before.capacity in
    let needs = λ (p : ℕ). sum_by (λ (ws : Vec Wire). ends_among p ws.items) c.args.wires.now in
    let room : needs place ≤ vec_capacity v = (let a = c.in_ok-blank_side.ensures.room in omega (arith, a)) in
    record {
      count = omega (arith, more, two, count);
      len = omega (arith, len, longer);
      capacity = omega (arith, cap, space);
      none = λ p. subst (λ xs. list_at xs p ≡ []) (sym items) (list_pushed old v c.in_ok-blank_side.ensures.none before.none p);
      rooms = λ p low. subst (λ xs. needs p ≤ room_at xs p) (sym items)
          (room_pushed old v p (needs p) (λ less. before.rooms p (omega (arith, less, count)))
          (λ e. (let same : place ≡ p = omega (arith, e, count) in subst (λ k. needs k ≤ vec_capacity v) same room)) (omega (arith, low, count)));
    }
