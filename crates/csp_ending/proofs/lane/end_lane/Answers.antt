use Rattle.csp_ending.proofs.Pouring.{lane_ends}
use Rattle.csp_ending.proofs.lane.end_lane.Goals as goal

pub returns : goal.returns
returns g c =
    let told = c.close.ensures.left in
    lane_ends c.args.lane c.args.producer c.args.consumer c.args.node c.args.queue c.args.notes.now c.note.new.notes c.args.store.now c.pour.new.store _ _ told.0 _ _
    c.requires.of_it.0 told.1 told.2 c.room.invariant.0 c.room.invariant.2 c.pour.ensures.slate c.pour.ensures.back c.note.ensures.notes c.note.ensures.rooms
