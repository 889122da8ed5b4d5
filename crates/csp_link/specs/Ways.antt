-- the two directions of a link, and the queues at its ends
use Rattle.std.specs.Prelude.{ℕ}
use Rattle.csp_link.specs.declared.way.Way.{Way}
use Rattle.csp_link.specs.declared.way.Way.TheVariants.{Forth, Back}
use Rattle.csp_log.specs.declared.places.QueueId.{QueueId}
use Rattle.csp_log.specs.declared.places.QueueId.TheVariants as queue

-- a direction has the number of the end that its frames come from
abbrev pub number : Way → ℕ
number Forth = 0
number Back = 1

-- the opposite direction
abbrev pub other : Way → Way
other Forth = Back
other Back = Forth

-- the queue that the frames of a direction come from
abbrev pub from_queue : Way → QueueId
from_queue way = queue.Tx (number way)

-- the lane that the frames of a direction go to
abbrev pub to_queue : Way → QueueId
to_queue way = queue.Rx (number (other way))
