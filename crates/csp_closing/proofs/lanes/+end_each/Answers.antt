use Rattle.std.proofs.Common.{◌≡◌, ◌+◌, ◌∷◌, List, length, rules, arith, ap, sym, subst}
use Rattle.csp_closing.proofs.Ending.{more_wires}
use Rattle.csp_closing.proofs.Handing.{next_at, next_split, rooms_split}
use Rattle.csp_closing.specs.Retired.{all_sides}
use Rattle.csp_closing.specs.Wires.{WiresEnd, rooms_in, without_ends}
use Rattle.csp_ends.specs.Ends.{PlainSide}
use Rattle.csp_topology.specs.declared.wire.Wire.{Wire}
use Rattle.csp_closing.proofs.lanes.+end_each.Goals as goal

pub end_each-requires : goal.end_each-requires
end_each-requires t g c =
    let sides = all_sides c.args.parties.now in
    let w = c.in-Some.wire.now in
    let ws = c.in-Some.rest.now in
    let l = c.next_lane-lane.result in
    let ls = c.next_lane-lane.new.lanes.items in
    let first = c.in-Some.ensures.cases.0 in
    let lanes = c.next_lane-lane.ensures in
    let number = c.requires.next.0 in
    let cut = next_split c.args.node number c.args.store.now.region c.args.wires.now c.args.lanes.now.items sides w ws l ls c.requires.next.1 first lanes in
    let ended = c.end_wire.ensures.ends number cut.0 in
    let rooms = rooms_split c.args.lanes.now.items c.args.rooms.now.items l ls c.next_room-room.result c.next_room-room.new.rooms.items c.requires.rooms lanes c.next_room-room.ensures in
    let long : length c.args.wires.now ≡ length (w ∷ ws) = ap (λ (xs : List Wire). length xs) first in
    let wide : rooms_in c.args.lanes.now.items ≡ rooms_in (l ∷ ls) = ap rooms_in lanes in
    let few = c.end_wire.ensures.few in
    let noted = ended.rooms in
    let room = ended.back.room in
    let had = c.requires.store_room in
    let notes = c.requires.notes_room in
    λ κs o. (
      search rules,
      (
        search rules,
        (
          (number + 1, next_at c.args.node (number + 1) c.args.store.now.region c.end_wire.new.store.region ws ls (without_ends w sides) (all_sides c.end_wire.new.parties) ended.back.region c.end_wire.ensures.sides cut.1),
          (rooms.1, (omega (arith, wide, few, room, had), omega (arith, long, noted, notes))),
        ),
      ),
    )

pub returns-in-Some-clause-ends : goal.returns-in-Some-clause-ends
returns-in-Some-clause-ends t g c = λ number next.
    let sides = all_sides c.args.parties.now in
    let w = c.in-Some.wire.now in
    let ws = c.in-Some.rest.now in
    let l = c.next_lane-lane.result in
    let ls = c.next_lane-lane.new.lanes.items in
    let first = c.in-Some.ensures.cases.0 in
    let cut = next_split c.args.node number c.args.store.now.region c.args.wires.now c.args.lanes.now.items sides w ws l ls next first c.next_lane-lane.ensures in
    let ended = c.end_wire.ensures.ends number cut.0 in
    let later = c.end_each.ensures.ends (number + 1)
    (next_at c.args.node (number + 1) c.args.store.now.region c.end_wire.new.store.region ws ls (without_ends w sides) (all_sides c.end_wire.new.parties) ended.back.region c.end_wire.ensures.sides cut.1) in
    subst (λ (xs : List Wire). WiresEnd sides xs c.args.node number c.args.notes.now c.end_each.new.notes c.args.store.now c.end_each.new.store) (sym first)
    (more_wires sides w ws c.args.node number c.args.notes.now c.end_wire.new.notes c.end_each.new.notes c.args.store.now c.end_wire.new.store c.end_each.new.store ended
    (subst (λ (ss : List (List PlainSide)). WiresEnd ss ws c.args.node (number + 1) c.end_wire.new.notes c.end_each.new.notes c.end_wire.new.store c.end_each.new.store) c.end_wire.ensures.sides later))

pub returns-in-Some-clause-few : goal.returns-in-Some-clause-few
returns-in-Some-clause-few t g c =
    let wide : rooms_in c.args.lanes.now.items ≡ rooms_in (c.next_lane-lane.result ∷ c.next_lane-lane.new.lanes.items) = ap rooms_in c.next_lane-lane.ensures in
    let few = c.end_wire.ensures.few in
    let later = c.end_each.ensures.few in
    omega (arith, wide, few, later)
