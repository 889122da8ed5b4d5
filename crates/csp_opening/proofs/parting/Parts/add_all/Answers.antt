use Rattle.std.proofs.Common.{◌≡◌, ◌+◌, List, length, subst, ap, arith}
use Rattle.csp_opening.proofs.Leaving.{moved}
use Rattle.csp_opening.specs.Opened.{lead_in, queues_in}
use Rattle.csp_opening.specs.Whole.{HavePartRoom, rooms_in, store_in}
use Rattle.csp_opening.specs.declared.nodes.Node.{Node}
use Rattle.csp_opening.proofs.parting.Parts.add_all.Goals as goal

pub loop-node-preserved : goal.loop-node-preserved
loop-node-preserved c =
    let first = c.in-Some.ensures.items in
    let before = c.loop-node.invariant in
    let rest = c.pop_front.new.self.items in
    let long : length c.loop-node.nodes.items ≡ length rest + 1 = (let e = ap (λ (xs : List Node). length xs) first in omega (arith, e)) in
    record {
      room = c.add.ensures.room (length rest) (subst (λ k. HavePartRoom k c.loop-node.self) long before.room);
      queues = moved queues_in _ _ c.in-Some.node rest _ _ c.add.ensures.queues first before.queues;
      stores = moved store_in _ _ c.in-Some.node rest _ _ c.add.ensures.stores first before.stores;
      rooms = moved rooms_in _ _ c.in-Some.node rest _ _ c.add.ensures.rooms first before.rooms;
      leads = moved lead_in _ _ c.in-Some.node rest _ _ c.add.ensures.leads first before.leads;
      ends = moved (λ (x : Node). x.lanes.ends) _ _ c.in-Some.node rest _ _ c.add.ensures.ends first before.ends;
    }
