use Rattle.std.proofs.Common.{◌≡◌, List, refl, sym, ap, ◌∙◌, subst, arith}
use Rattle.csp_closing.proofs.Ending.{inbox_few, node_ended}
use Rattle.csp_closing.proofs.Gathering.{gathered_open}
use Rattle.csp_closing.specs.Hands.{homes_at}
use Rattle.csp_closing.specs.Retired.{all_homes, all_sides}
use Rattle.csp_closing.specs.Wires.{WiresEnd, rooms_in}
use Rattle.csp_ending.specs.Ends.{InboxEnds}
use Rattle.csp_ends.specs.Ends.{PlainNodeQueues, PlainSide}
use Rattle.csp_inbox.specs.Passes.{IsPassOf}
use Rattle.csp_closing.proofs.queues.end_node.Goals as goal
use Rattle.csp_standing.specs.declared.fabric.NodeStore.{NodeStore}

pub end_pool-first-requires-clause-of_it : goal.end_pool-first-requires-clause-of_it
end_pool-first-requires-clause-of_it g c =
    let open_ = gathered_open c.args.queues (homes_at c.args.node (all_homes c.args.parties.now)) c.take_passes-pool_pass.result c.requires.can.gather c.take_passes-pool_pass.ensures.passes in
    open_.pool ∙ ap (λ (q : PlainNodeQueues). q.pool.name) (sym c.queues.view_is)

pub end_pool-first-requires-clause-opening : goal.end_pool-first-requires-clause-opening
end_pool-first-requires-clause-opening g c =
    (gathered_open c.args.queues (homes_at c.args.node (all_homes c.args.parties.now)) c.take_passes-pool_pass.result c.requires.can.gather c.take_passes-pool_pass.ensures.passes).opens

pub end_pool-first-requires-clause-room : goal.end_pool-first-requires-clause-room
end_pool-first-requires-clause-room g c =
    let few = c.end_lanes.ensures.few in
    let fewer = inbox_few c.queues.inside.inbox c.take_passes-pool_pass.result.inbox c.args.node c.end_lanes.new.notes c.end_inbox.new.notes c.end_lanes.new.store c.end_inbox.new.store c.end_inbox.ensures in
    let room = c.requires.can.store in
    let lanes = c.end_lanes.ensures.ends.back.room in
    let mail = c.end_inbox.ensures.back.room in
    let capacity : c.queues.inside.pool.capacity ≡ c.args.queues.pool.capacity = ap (λ (q : PlainNodeQueues). q.pool.capacity) c.queues.view_is in
    let packets : c.queues.inside.inbox.room ≡ c.args.queues.inbox.room = ap (λ (q : PlainNodeQueues). q.inbox.room) c.queues.view_is in
    let items : rooms_in c.queues.inside.lanes.items ≡ rooms_in c.args.queues.lanes = ap (λ (q : PlainNodeQueues). rooms_in q.lanes) c.queues.view_is in
    omega (arith, few, fewer, room, lanes, mail, capacity, packets, items)

pub end_inbox-requires-clause-of_it : goal.end_inbox-requires-clause-of_it
end_inbox-requires-clause-of_it g c =
    subst (λ (q : PlainNodeQueues). IsPassOf q.inbox c.take_passes-pool_pass.result.inbox) (sym c.queues.view_is)
    (gathered_open c.args.queues (homes_at c.args.node (all_homes c.args.parties.now)) c.take_passes-pool_pass.result c.requires.can.gather c.take_passes-pool_pass.ensures.passes).inbox

pub returns-clause-ends : goal.returns-clause-ends
returns-clause-ends g c =
    let t : NodeStore = record { store = c.end_pool-first.new.self; numbers = c.args.store.now.numbers; first = c.end_pool-first.result.0; last = c.end_pool-first.result.1 } in
    node_ended c.args.node c.args.queues c.args.wires.now (all_homes c.args.parties.now) (all_sides c.args.parties.now) c.take_passes-pool_pass.result c.args.notes.now c.end_lanes.new.notes c.end_inbox.new.notes c.args.store.now t c.end_lanes.new.store
    c.end_inbox.new.store c.end_pool-first.new.self c.take_passes-pool_pass.ensures.passes
    (subst (λ (ss : List (List PlainSide)). WiresEnd ss c.args.wires.now c.args.node 0 c.args.notes.now c.end_lanes.new.notes c.args.store.now.store c.end_lanes.new.store) c.take_passes-pool_pass.ensures.sides c.end_lanes.ensures.ends)
    (subst (λ (q : PlainNodeQueues). InboxEnds q.inbox c.take_passes-pool_pass.result.inbox c.args.node c.end_lanes.new.notes c.end_inbox.new.notes c.end_lanes.new.store c.end_inbox.new.store) c.queues.view_is c.end_inbox.ensures)
    c.end_pool-first.ensures refl refl
