use Rattle.csp_lists.proofs.Conserving.{queues_kept, shape_kept, room_kept}
use Rattle.csp_lists.proofs.laws.keeps_shape.Goals as goal

pub returns : goal.returns
returns c = record { queues = queues_kept; shape = shape_kept; pool = room_kept }
