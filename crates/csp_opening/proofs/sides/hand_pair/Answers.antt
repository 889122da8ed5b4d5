use Rattle.std.proofs.Common.{◌<◌, ◌==◌, ℕ, [], ◌∷◌, List, length, arith}
use Rattle.std.specs.Global.{Vec}
use Rattle.std.specs.Prelude.{if◌then◌else◌, slice_set}
use Rattle.csp_ends.specs.Ends.{PlainSide}
use Rattle.csp_opening.proofs.Given.{handed_read, handed_two, room_read}
use Rattle.csp_opening.proofs.Leaving.{room_first, room_rest}
use Rattle.csp_opening.specs.Handed.{AreHanded, getting, putting}
use Rattle.csp_opening.specs.declared.lanes.Pair.{Pair}
use Rattle.csp_opening.proofs.sides.hand_pair.Goals.{After-push_reserved}
use Rattle.csp_opening.proofs.sides.hand_pair.Goals as goal

-- what each party gets of the end that puts, and of the one that gets
abbrev first : ℕ → ℕ → Pair → ℕ → List PlainSide
first node lane pair p = if pair.wire.from.party == p then putting node lane pair ∷ [] else []

abbrev second : ℕ → ℕ → Pair → ℕ → List PlainSide
second node lane pair p = if pair.wire.to.party == p then getting node lane pair ∷ [] else []

-- the first was handed out
abbrev after : After-push_reserved → List (Vec PlainSide)
after c = slice_set c.args.sides.now.items c.from.result c.push_reserved.new.self

handed : (c : After-push_reserved) → AreHanded c.args.sides.now.items (first c.args.node c.args.lane c.args.pair) (after c)
handed c = handed_read c.args.sides.now.items c.from.result c.args.pair.wire.from.party c.index_mut.result.now c.push_reserved.new.self (putting c.args.node c.args.lane c.args.pair) c.from.ensures c.requires.among.from
    c.index_mut.ensures.value c.push_reserved.ensures.items c.push_reserved.ensures.capacity

low_after : (c : After-push_reserved) → c.args.pair.wire.to.party < length (after c)
low_after c = let count = (handed c).count in let most = c.requires.among.to in omega (arith, count, most)

pub push_reserved-requires : goal.push_reserved-requires
push_reserved-requires c =
    room_read c.args.sides.now.items c.from.result c.args.pair.wire.from.party c.index_mut.result.now (putting c.args.node c.args.lane c.args.pair) c.from.ensures c.requires.among.from c.index_mut.ensures.value
    (room_first c.args.sides.now.items (first c.args.node c.args.lane c.args.pair) (second c.args.node c.args.lane c.args.pair) c.requires.room)

pub push_reserved-requires-2 : goal.push_reserved-requires-2
push_reserved-requires-2 c =
    let was = (goal.at.push_reserved-requires-2 c).After-push_reserved in
    room_read (after was) c.from-2.result c.args.pair.wire.to.party c.index_mut-2.result.now (getting c.args.node c.args.lane c.args.pair) c.from-2.ensures (low_after was) c.index_mut-2.ensures.value
    (room_rest c.args.sides.now.items (after was) (first c.args.node c.args.lane c.args.pair) (second c.args.node c.args.lane c.args.pair) c.requires.room (handed was))

pub returns : goal.returns
returns c =
    let was = (goal.at.returns c).After-push_reserved in
    handed_two c.args.sides.now.items (after was) (slice_set (after was) c.from-2.result c.push_reserved-2.new.self) (first c.args.node c.args.lane c.args.pair) (second c.args.node c.args.lane c.args.pair) (handed was)
    (handed_read (after was) c.from-2.result c.args.pair.wire.to.party c.index_mut-2.result.now c.push_reserved-2.new.self (getting c.args.node c.args.lane c.args.pair) c.from-2.ensures (low_after was) c.index_mut-2.ensures.value c.push_reserved-2.ensures.items c.push_reserved-2.ensures.capacity)
