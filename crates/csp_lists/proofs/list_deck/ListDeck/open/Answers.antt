use Rattle.std.proofs.Common.{refl}
use Rattle.csp_lists.proofs.Standing.{opened_emptied}
use Rattle.csp_lists.proofs.list_deck.ListDeck.open.Goals as goal

pub invariant_of-result : goal.invariant_of-result
invariant_of-result c = record {
  inbox = c.args.inbox;
  links = c.args.ifaces.now;
  queues = rw (c.in-Ok-open_queues.ensures.ok) (opened_emptied c.args.inbox c.args.ifaces.now _);
  of_it = rw (c.full_of.ensures, c.open_queues.ensures.region, c.none-queues.ensures, c.copy.ensures) refl;
}
