use Rattle.std.proofs.Common.{arith, subst, sym, ◌∙◌, map}
use Rattle.std.proofs.lemmas.List.Elements.{All-head, All-rest}
use Rattle.csp_arena.specs.Cells.{RegionName}
use Rattle.csp_deck.specs.Regions.{IsItemOf}
use Rattle.csp_log.specs.Pictures.{shown_item}
use Rattle.csp_ending.proofs.Pouring.{longer, moved, one_number}
use Rattle.csp_ending.proofs.lane.pour.Goals as goal

pub put-requires-clause-of_it : goal.put-requires-clause-of_it
put-requires-clause-of_it c =
    let before = c.loop-item.invariant in
    subst (λ (r : RegionName). IsItemOf r c.in-Some.item) (sym before.region) (All-head (IsItemOf c.args.store.now.region) c.in-Some.item _ (rw c.in-Some.ensures.items at before.of_it))

pub loop-item-preserved : goal.loop-item-preserved
loop-item-preserved c =
    let first = c.in-Some.ensures.items in
    let before = c.loop-item.invariant in
    let x = shown_item c.in-Some.item in
    let rest = map shown_item c.pop_front.new.self.items in
    let back = c.put.ensures.back in
    let room = rw first at before.room in
    let store_room = rw first at before.store_room in
    let one = one_number x in
    let used = longer back in
    record {
      slate = moved _ _ _ _ _ c.put.ensures.items (rw first at before.slate);
      room = omega (arith, room, c.put.ensures.spare);
      store_room = omega (arith, store_room, used, one, back.room);
      total = back.room ∙ before.total;
      of_it = All-rest (IsItemOf c.args.store.now.region) c.in-Some.item _ _ first before.of_it;
      region = back.region ∙ before.region;
      count = back.count ∙ before.count;
      numbers = moved _ _ _ _ _ back.numbers (rw first at before.numbers);
    }
