use Rattle.std.proofs.Common.{◌≡◌, ◌+◌, ◌≤◌, ◌++◌, length, map}
use Rattle.std.specs.Prelude.{All}
use Rattle.csp_deck.specs.Regions.{IsItemOf}
use Rattle.csp_lists.specs.PlainDeck.{numbers_of}
use Rattle.csp_log.specs.Pictures.{shown_item}
use Rattle.csp_ending.proofs.lane.pour.Given as goal

abbrev pub invariant-loop-item : goal.invariant-loop-item
invariant-loop-item l = record {
  slate : l.slate.items ++ map shown_item l.items.items ≡ l.fn.slate.items ++ map shown_item l.fn.items.items;
  room : length l.items.items ≤ l.slate.spare;
  store_room : length l.store.numbers + length l.items.items ≤ l.store.room;
  total : l.store.room ≡ l.fn.store.room;
  of_it : All (IsItemOf l.fn.store.region) l.items.items;
  region : l.store.region ≡ l.fn.store.region;
  count : l.store.count ≡ l.fn.store.count;
  numbers : l.store.numbers ++ numbers_of (map shown_item l.items.items) ≡ l.fn.store.numbers ++ numbers_of (map shown_item l.fn.items.items);
}

abbrev pub decreases-loop-item : goal.decreases-loop-item
decreases-loop-item l = length l.items.items
