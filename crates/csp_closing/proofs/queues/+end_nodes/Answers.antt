use Rattle.std.proofs.Common.{◌≡◌, ◌+◌, ◌-◌, List, ◌∷◌, drop, take, length, map, rules, arith, ap, subst}
use Rattle.std.specs.Global.{Vec}
use Rattle.csp_closing.proofs.Ending.{nodes_joined, nodes_none, nodes_split, none_left, rest_can, rest_wires}
use Rattle.csp_closing.specs.Nodes.{NodesEnd, queue_count}
use Rattle.csp_closing.specs.Retired.{all_homes, all_sides}
use Rattle.csp_standing.specs.declared.fabric.NodeStore.{NodeStore}
use Rattle.csp_topology.specs.declared.wire.Wire.{Wire}
use Rattle.csp_closing.proofs.queues.+end_nodes.Goals as goal

pub end_node-requires-clause-can : goal.end_node-requires-clause-can
end_node-requires-clause-can g t c =
    (nodes_split c.args.node c.args.nodes.now.items c.args.rooms.now.items c.args.wires.now c.args.stores.now (all_homes c.args.parties.now) (all_sides c.args.parties.now) c.next_queues-queues.result c.next_queues-queues.new.nodes.items c.next_rooms-room.result
    c.next_rooms-room.new.rooms.items c.in-Some.store.now c.in-Some.later.now c.index-wires-0.result c.deref.result.now c.requires.can c.next_queues-queues.ensures c.next_rooms-room.ensures c.in-Some.ensures.cases.0 c.index-wires-0.is c.deref.ensures.value).first

pub end_nodes-requires : goal.end_nodes-requires
end_nodes-requires g t c =
    let homes = all_homes c.args.parties.now in
    let sides = all_sides c.args.parties.now in
    let cut = nodes_split c.args.node c.args.nodes.now.items c.args.rooms.now.items c.args.wires.now c.args.stores.now homes sides c.next_queues-queues.result c.next_queues-queues.new.nodes.items c.next_rooms-room.result c.next_rooms-room.new.rooms.items
    c.in-Some.store.now c.in-Some.later.now c.index-wires-0.result c.deref.result.now c.requires.can c.next_queues-queues.ensures c.next_rooms-room.ensures c.in-Some.ensures.cases.0 c.index-wires-0.is c.deref.ensures.value in
    let can = rest_can c.args.node c.next_queues-queues.new.nodes.items c.next_rooms-room.new.rooms.items c.args.wires.now c.in-Some.later.now homes (all_homes c.end_node.new.parties) sides (all_sides c.end_node.new.parties) c.next_queues-queues.result
    c.next_rooms-room.result c.deref.result.now c.in-Some.store.now cut c.end_node.ensures.homes c.end_node.ensures.sides in
    let long : length c.args.stores.now ≡ length (c.in-Some.store.now ∷ c.in-Some.later.now) = ap (λ (l : List NodeStore). length l) c.in-Some.ensures.cases.0 in
    let few = c.requires.few in
    let whole : queue_count (map (λ (v : Vec Wire). v.items) c.args.wires.now) ≡ queue_count (c.deref.result.now ∷ map (λ (v : Vec Wire). v.items) (drop 1 c.args.wires.now)) = ap queue_count cut.wires_are in
    let rest : queue_count (map (λ (v : Vec Wire). v.items) (take (length c.args.wires.now - 1) (drop 1 c.args.wires.now))) ≡ queue_count (map (λ (v : Vec Wire). v.items) (drop 1 c.args.wires.now)) = ap queue_count (rest_wires c.args.wires.now) in
    let rooms = c.end_node.ensures.ends.rooms in
    let notes = c.requires.notes_room in
    λ κs o. (search rules, (search rules, (can, (omega (arith, long, few), omega (arith, whole, rest, rooms, notes)))))

pub returns-in-Some-clause-ends : goal.returns-in-Some-clause-ends
returns-in-Some-clause-ends g t c =
    let cut = nodes_split c.args.node c.args.nodes.now.items c.args.rooms.now.items c.args.wires.now c.args.stores.now (all_homes c.args.parties.now) (all_sides c.args.parties.now) c.next_queues-queues.result c.next_queues-queues.new.nodes.items
    c.next_rooms-room.result c.next_rooms-room.new.rooms.items c.in-Some.store.now c.in-Some.later.now c.index-wires-0.result c.deref.result.now c.requires.can c.next_queues-queues.ensures c.next_rooms-room.ensures c.in-Some.ensures.cases.0
    c.index-wires-0.is c.deref.ensures.value in
    nodes_joined c.args.node c.args.nodes.now.items (map (λ (v : Vec Wire). v.items) c.args.wires.now) c.args.stores.now (all_homes c.args.parties.now) (all_homes c.end_node.new.parties) (all_sides c.args.parties.now) (all_sides c.end_node.new.parties)
    c.next_queues-queues.result c.next_queues-queues.new.nodes.items c.deref.result.now (map (λ (v : Vec Wire). v.items) (drop 1 c.args.wires.now)) c.args.notes.now c.end_node.new.notes c.end_nodes.new.notes c.in-Some.store.now c.end_node.new.store
    c.in-Some.later.now c.end_nodes.new.stores c.next_queues-queues.ensures cut.wires_are c.in-Some.ensures.cases.0 c.end_node.ensures.homes c.end_node.ensures.sides c.end_node.ensures.ends
    (subst (λ (l : List (List Wire)). NodesEnd (c.args.node + 1) c.next_queues-queues.new.nodes.items l (all_homes c.end_node.new.parties) (all_sides c.end_node.new.parties) c.end_node.new.notes c.end_nodes.new.notes c.in-Some.later.now c.end_nodes.new.stores)
    (rest_wires c.args.wires.now) c.end_nodes.ensures.ends)

pub returns-in_default-clause-ends : goal.returns-in_default-clause-ends
returns-in_default-clause-ends g t c =
    let none = none_left c.args.node c.args.nodes.now.items c.args.rooms.now.items (map (λ (v : Vec Wire). v.items) c.args.wires.now) c.args.stores.now (all_homes c.args.parties.now) (all_sides c.args.parties.now) c.requires.can c.in_default.ensures.cases in
    nodes_none c.args.node c.args.nodes.now.items (map (λ (v : Vec Wire). v.items) c.args.wires.now) c.args.stores.now (all_homes c.args.parties.now) (all_sides c.args.parties.now) c.args.notes.now none.0 none.2 none.3

pub returns-in_default-clause-nodes : goal.returns-in_default-clause-nodes
returns-in_default-clause-nodes g t c =
    (none_left c.args.node c.args.nodes.now.items c.args.rooms.now.items (map (λ (v : Vec Wire). v.items) c.args.wires.now) c.args.stores.now (all_homes c.args.parties.now) (all_sides c.args.parties.now) c.requires.can c.in_default.ensures.cases).0

pub returns-in_default-clause-rooms : goal.returns-in_default-clause-rooms
returns-in_default-clause-rooms g t c =
    (none_left c.args.node c.args.nodes.now.items c.args.rooms.now.items (map (λ (v : Vec Wire). v.items) c.args.wires.now) c.args.stores.now (all_homes c.args.parties.now) (all_sides c.args.parties.now) c.requires.can c.in_default.ensures.cases).1
