use Rattle.std.proofs.Common.{◌<◌, ◌+◌, ◌++◌, ℕ, List, length, map, sym, subst, ap, ◌∙◌, arith}
use Rattle.std.specs.Global.{Vec}
use Rattle.std.specs.List.{AllByRecursion}
use Rattle.csp_opening.proofs.Leaving.{lists_rest, room_rest}
use Rattle.csp_opening.specs.Handed.{HaveRoom, IsAmong, handed_among, handed_from, list_at}
use Rattle.csp_opening.specs.declared.lanes.Pair.{Pair}
use Rattle.csp_opening.proofs.sides.hand_out.Goals as goal

pub loop-pairs-preserved : goal.loop-pairs-preserved
loop-pairs-preserved c =
    let before = c.loop-pairs.invariant in
    let first = c.in-Some.ensures.items in
    let rest = c.pop_front.new.self.items in
    let node = c.loop-pairs.node in
    let h = c.hand_out_at.ensures in
    let old = c.loop-pairs.sides.items in
    let new = c.hand_out_at.new.sides.items in
    let long = ap (λ (xs : List (Vec Pair)). length xs) first in
    let low = before.low in
    let count = before.count in
    let one = λ (p : ℕ). handed_among p node 0 c.in-Some.pairs.items in
    let more = λ (p : ℕ). handed_from p (node + 1) (map (λ (pairs : Vec Pair). pairs.items) rest) in
    record {
      low = omega (arith, long, low);
      few = (subst (AllByRecursion (λ (pairs : Vec Pair). length pairs.items < 256)) first before.few).1;
      among = subst (λ k. AllByRecursion (λ (pairs : Vec Pair). AllByRecursion (IsAmong k) pairs.items) rest) (sym h.count)
          (subst (AllByRecursion (λ (pairs : Vec Pair). AllByRecursion (IsAmong (length old)) pairs.items)) first before.among).1;
      room = room_rest old new one more (subst (λ xs. HaveRoom old (λ p. length (handed_from p node (map (λ (pairs : Vec Pair). pairs.items) xs)))) first before.room) h;
      count = h.count ∙ count;
      lists = λ p here. lists_rest old new one more p (omega (arith, here, count)) h
          ∙ ap (λ xs. list_at old p ++ handed_from p node (map (λ (pairs : Vec Pair). pairs.items) xs)) (sym first) ∙ before.lists p here;
      rooms = λ p here. h.rooms p (omega (arith, here, count)) ∙ before.rooms p here;
    }
