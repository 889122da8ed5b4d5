use Rattle.std.proofs.Common.{arith, sym, ◌∙◌}
use Rattle.std.proofs.lemmas.List.{length-map}
use Rattle.csp_world.proofs.OpeningNodes.{queues_all}
use Rattle.csp_world.proofs.room.Room.open.Goals as goal
use Rattle.csp_world.specs.Opening.{deck_of}

pub returns-clause-has : goal.returns-clause-has
returns-clause-has c =
    let nodes = c.args.nodes.now in
    let queues = c.queues_in-queues.ensures.count in
    let all = queues_all c.opens.ensures.queues nodes in
    let many = length-map nodes deck_of in
    let left = c.in_ok-left.ensures.exact in
    let held = c.in_ok-held.ensures.exact in
    let emptied = c.in_ok-emptied.ensures.exact in
    record {
      no_logs = c.new-logs.ensures.items;
      logs = omega arith;
      no_left = c.in_ok-left.ensures.items;
      left = omega (arith, queues, all, left);
      no_held = c.in_ok-held.ensures.items;
      held = omega (arith, queues, all, many, held);
      no_emptied = c.in_ok-emptied.ensures.items;
      emptied = omega (arith, many, emptied);
      counted = queues ∙ sym all;
    }
