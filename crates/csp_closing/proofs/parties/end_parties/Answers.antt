use Rattle.std.proofs.Common.{List, arith, ap, ◌∙◌, sym, subst}
use Rattle.csp_closing.proofs.Parting.{moved}
use Rattle.csp_closing.specs.Retired.{all_rest}
use Rattle.csp_closing.specs.Stores.{CanEndParties, PlainPile, parties_back}
use Rattle.csp_ending.specs.Notes.{PlainNotes}
use Rattle.csp_closing.proofs.parties.end_parties.Goals as goal

pub end_party-requires-clause-can : goal.end_party-requires-clause-can
end_party-requires-clause-can c = (rw c.in-Some.ensures.items at c.loop-party.invariant.can).0

pub loop-party-preserved : goal.loop-party-preserved
loop-party-preserved c =
    let first = c.in-Some.ensures.items in
    let before = c.loop-party.invariant in
    let done = c.end_party.ensures in
    let can = rw first at before.can in
    let logs_room = rw first at before.logs_room in
    let others = rw first at before.others in
    record {
      can = subst (λ (ps : List PlainPile). CanEndParties ps (all_rest c.pop_front.new.self.items)) (sym done.stores) can.1;
      stores = ap (parties_back (all_rest c.pop_front.new.self.items)) done.stores ∙ (rw first at before.stores);
      logs = moved _ _ _ _ _ done.logs (rw first at before.logs);
      logs_room = omega (arith, logs_room, done.logs_len, done.logs_capacity);
      left = ap (λ (n : PlainNotes). n.left) done.notes ∙ before.left;
      held = moved _ _ _ _ _ (ap (λ (n : PlainNotes). n.held) done.notes) (rw first at before.held);
      queues = ap (λ (n : PlainNotes). n.queues) done.notes ∙ before.queues;
      others = omega (arith, others, done.rooms);
    }
