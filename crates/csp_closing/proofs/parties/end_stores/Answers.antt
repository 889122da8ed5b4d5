use Rattle.std.proofs.Common.{List, map, arith, ap, ◌∙◌}
use Rattle.std.proofs.lemmas.List.Elements.{All-head, All-rest}
use Rattle.csp_closing.proofs.Parting.{moved}
use Rattle.csp_closing.specs.Stores.{CanGiveBack, pile_of}
use Rattle.csp_ending.specs.Notes.{PlainNotes}
use Rattle.csp_closing.proofs.parties.end_stores.Goals as goal
use Rattle.csp_standing.specs.declared.fabric.NodeStore.{NodeStore}

pub end_store-requires-clause-can : goal.end_store-requires-clause-can
end_store-requires-clause-can c = All-head CanGiveBack (pile_of c.in-Some.rest) (map pile_of c.pop_front.new.self.items) (rw c.in-Some.ensures.items at c.loop-rest.invariant.can)

pub loop-rest-preserved : goal.loop-rest-preserved
loop-rest-preserved c =
    let first = c.in-Some.ensures.items in
    let before = c.loop-rest.invariant in
    let noted = c.end_store.ensures.notes in
    let rooms = c.end_store.ensures.rooms in
    let count = rw first at before.count in
    let room = rw first at before.room in
    record {
      left = ap (λ (n : PlainNotes). n.left) noted ∙ before.left;
      held = moved _ _ _ _ _ (ap (λ (n : PlainNotes). n.held) noted) (rw first at before.held);
      queues = ap (λ (n : PlainNotes). n.queues) noted ∙ before.queues;
      count = omega (arith, count);
      can = All-rest CanGiveBack (pile_of c.in-Some.rest) (map pile_of c.pop_front.new.self.items) _ (ap (λ (ss : List NodeStore). map pile_of ss) first) before.can;
      room = omega (arith, room, rooms);
    }
