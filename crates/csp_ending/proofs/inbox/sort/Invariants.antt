use Rattle.std.proofs.Common.{◌≡◌, ◌+◌, ◌≤◌, ◌++◌, length, map}
use Rattle.std.specs.Prelude.{All}
use Rattle.csp_base.specs.declared.priority.Prio.{Prio}
use Rattle.csp_deck.specs.Carried.{IsInboxItem}
use Rattle.csp_deck.specs.Regions.{IsItemOf}
use Rattle.csp_ending.specs.Slates.{HaveRoom, of_priority, slate_of}
use Rattle.csp_lists.specs.PlainDeck.{numbers_of}
use Rattle.csp_log.specs.Pictures.{shown_item}
use Rattle.csp_ending.proofs.inbox.sort.Given as goal

abbrev pub invariant-loop-item : goal.invariant-loop-item
invariant-loop-item l = record {
  slates : (p : Prio) → (slate_of l.slates p).items ++ of_priority p (map shown_item l.items.items) ≡ (slate_of l.fn.slates p).items ++ of_priority p (map shown_item l.fn.items.items);
  room : HaveRoom (length l.items.items) l.slates;
  store_room : length l.store.numbers + length l.items.items ≤ l.store.room;
  total : l.store.room ≡ l.fn.store.room;
  packets : All (λ i. IsInboxItem (shown_item i)) l.items.items;
  of_it : All (IsItemOf l.fn.store.region) l.items.items;
  region : l.store.region ≡ l.fn.store.region;
  count : l.store.count ≡ l.fn.store.count;
  numbers : l.store.numbers ++ numbers_of (map shown_item l.items.items) ≡ l.fn.store.numbers ++ numbers_of (map shown_item l.fn.items.items);
}

abbrev pub decreases-loop-item : goal.decreases-loop-item
decreases-loop-item l = length l.items.items
