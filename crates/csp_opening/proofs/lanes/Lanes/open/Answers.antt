use Rattle.std.proofs.Common.{◌<◌, ◌+◌, length, take, sym, subst, arith}
use Rattle.std.proofs.lemmas.Option.{slice_get-get_or}
use Rattle.csp_opening.proofs.Leaving.{are_unused, lanes_more, len_more, take_more}
use Rattle.csp_opening.specs.Opened.{AreLanes}
use Rattle.csp_opening.proofs.lanes.Lanes.open.Goals as goal

pub loop-wire-preserved : goal.loop-wire-preserved
loop-wire-preserved g c =
    let before = c.loop-wire.invariant in
    let k = c.loop-wire.wire-index in
    let wires = c.args.wires.now in
    let low : k < length wires = c.loop-wire-test.true in
    let more = c.in-Ok.ensures.added in
    let opened : AreLanes c.args.region.now.name (take (k + 1) wires) c.add.new.self =
    subst (λ ws. AreLanes c.args.region.now.name ws c.add.new.self) (sym (take_more wires k _ (slice_get-get_or wires k _ low))) (lanes_more c.args.region.now.name (take k wires) _ c.loop-wire.lanes c.add.new.self before.opened more) in
    record {
      opened = opened;
      unused = are_unused c.args.region.now.name (take (k + 1) wires) c.add.new.self opened;
      lanes = (let a = len_more c.add.new.self.lanes c.loop-wire.lanes.lanes more.lane more.lanes in let b = before.lanes in omega (arith, a, b));
      rooms = (let a = len_more c.add.new.self.rooms c.loop-wire.lanes.rooms _ more.rooms in let b = before.rooms in omega (arith, a, b));
      ends = (let a = len_more c.add.new.self.ends c.loop-wire.lanes.ends _ more.ends in let b = before.ends in omega (arith, a, b));
      lanes_room = (let a = c.add.ensures.lanes_capacity in let b = before.lanes_room in omega (arith, a, b));
      rooms_room = (let a = c.add.ensures.rooms_capacity in let b = before.rooms_room in omega (arith, a, b));
      ends_room = (let a = c.add.ensures.ends_capacity in let b = before.ends_room in omega (arith, a, b));
    }
