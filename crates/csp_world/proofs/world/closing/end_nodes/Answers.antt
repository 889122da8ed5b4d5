use Rattle.std.proofs.Common.{arith, ap}
use Rattle.std.proofs.lemmas.List.Elements.{All-head, All-rest}
use Rattle.csp_nodes.specs.Emptied.{IsComplete, emptied_in}
use Rattle.csp_world.proofs.ClosingParts.{moved}
use Rattle.csp_world.proofs.world.closing.end_nodes.Goals as goal

pub end-requires-clause-complete : goal.end-requires-clause-complete
end-requires-clause-complete c = All-head IsComplete c.in-Some.rest.emptied (emptied_in c.pop_front.new.self.items) (rw c.in-Some.ensures.items at c.loop-rest.invariant.complete)

pub loop-rest-preserved : goal.loop-rest-preserved
loop-rest-preserved c =
    let first = c.in-Some.ensures.items in
    let before = c.loop-rest.invariant in
    let len = rw first at before.count in
    let room = rw first at before.room in
    record {
      held = moved _ _ _ _ _ c.end.ensures.held (rw first at before.held);
      count = omega (arith, len);
      complete = All-rest IsComplete c.in-Some.rest.emptied _ _ (ap emptied_in first) before.complete;
      room = omega (arith, room, c.end.ensures.held_len, c.end.ensures.held_capacity);
    }
