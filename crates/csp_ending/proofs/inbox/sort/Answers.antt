use Rattle.std.proofs.Common.{arith, subst, sym, ◌∙◌, length, map}
use Rattle.std.proofs.lemmas.List.Elements.{All-head, All-rest}
use Rattle.csp_arena.specs.Cells.{RegionName}
use Rattle.csp_deck.specs.Carried.{IsInboxItem}
use Rattle.csp_deck.specs.Regions.{IsItemOf}
use Rattle.csp_log.specs.Pictures.{shown_item}
use Rattle.csp_log.specs.declared.item.Item.{Item}
use Rattle.csp_ending.proofs.Pouring.{longer, moved, one_number}
use Rattle.csp_ending.proofs.Sorting.{less_room, room_one, sorted}
use Rattle.csp_ending.proofs.inbox.sort.Goals as goal

pub put-requires-clause-room : goal.put-requires-clause-room
put-requires-clause-room c = room_one (length c.pop_front.new.self.items) _ (rw c.in-Some.ensures.items at c.loop-item.invariant.room)

pub put-requires-clause-packet : goal.put-requires-clause-packet
put-requires-clause-packet c = All-head (λ (i : Item). IsInboxItem (shown_item i)) c.in-Some.item _ (rw c.in-Some.ensures.items at c.loop-item.invariant.packets)

pub put-requires-clause-of_it : goal.put-requires-clause-of_it
put-requires-clause-of_it c =
    let before = c.loop-item.invariant in
    subst (λ (r : RegionName). IsItemOf r c.in-Some.item) (sym before.region) (All-head (IsItemOf c.args.store.now.region) c.in-Some.item _ (rw c.in-Some.ensures.items at before.of_it))

pub loop-item-preserved : goal.loop-item-preserved
loop-item-preserved c =
    let first = c.in-Some.ensures.items in
    let before = c.loop-item.invariant in
    let x = shown_item c.in-Some.item in
    let rest = map shown_item c.pop_front.new.self.items in
    let back = c.put.ensures.back in
    let store_room = rw first at before.store_room in
    let one = one_number x in
    let used = longer back in
    record {
      slates = λ p. sorted _ _ p x rest _ (c.put.ensures.slates p) (rw first at (before.slates p));
      room = c.put.ensures.room (length c.pop_front.new.self.items) (less_room (length c.pop_front.new.self.items) _ (rw first at before.room));
      store_room = omega (arith, store_room, used, one, back.room);
      total = back.room ∙ before.total;
      packets = All-rest (λ (i : Item). IsInboxItem (shown_item i)) c.in-Some.item _ _ first before.packets;
      of_it = All-rest (IsItemOf c.args.store.now.region) c.in-Some.item _ _ first before.of_it;
      region = back.region ∙ before.region;
      count = back.count ∙ before.count;
      numbers = moved _ _ _ _ _ back.numbers (rw first at before.numbers);
    }
