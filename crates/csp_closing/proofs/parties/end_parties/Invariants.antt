use Rattle.std.proofs.Common.{◌≡◌, ◌+◌, ◌≤◌, ◌++◌, length, map, vec_len, vec_capacity}
use Rattle.std.specs.List.{flat_map}
use Rattle.csp_closing.specs.Retired.{all_rest}
use Rattle.csp_closing.specs.Stores.{CanEndParties, parties_back, pile_of, rest_held, rest_log}
use Rattle.csp_closing.proofs.parties.end_parties.Given as goal

abbrev pub invariant-loop-party : goal.invariant-loop-party
invariant-loop-party l = record {
  can : CanEndParties (map pile_of l.stores) (all_rest l.parties.items);
  stores : parties_back (all_rest l.parties.items) (map pile_of l.stores) ≡ parties_back (all_rest l.fn.parties.items) (map pile_of l.fn.stores);
  logs : l.logs.items ++ map rest_log (all_rest l.parties.items) ≡ l.fn.logs.items ++ map rest_log (all_rest l.fn.parties.items);
  logs_room : vec_len l.logs + length l.parties.items ≤ vec_capacity l.logs;
  left : l.notes.left ≡ l.fn.notes.left;
  held : l.notes.held ++ flat_map rest_held (all_rest l.parties.items) ≡ l.fn.notes.held ++ flat_map rest_held (all_rest l.fn.parties.items);
  queues : l.notes.queues ≡ l.fn.notes.queues;
  others : l.fn.notes.others + length l.parties.items ≤ l.notes.others + length l.fn.parties.items;
}

abbrev pub decreases-loop-party : goal.decreases-loop-party
decreases-loop-party l = length l.parties.items
