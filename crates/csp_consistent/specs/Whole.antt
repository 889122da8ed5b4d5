-- Of which queues a record of a scene says what was left there.
use Rattle.std.specs.Prelude.{◌≡◌, ℕ, map}
use Rattle.csp_lists.specs.Gathered.{prio_named, queue_named}
use Rattle.csp_log.specs.Remains.{PlainLeft}
use Rattle.csp_log.specs.declared.places.Place.{Place}
use Rattle.csp_log.specs.declared.places.QueueId.{QueueId}
use Rattle.csp_record.specs.Record.{PlainRecord}
use Rattle.csp_scene.specs.Scene.{PlainScene}
use Rattle.csp_topology.specs.Queues.{queues_of}

-- what a record calls the queue of a place: its node, the lane or the inbox, and the number of the priority, which is 0 for a lane
abbrev pub queue_name : ℕ × Place → ℕ × QueueId × ℕ
queue_name at = (at.0, queue_named at.1, prio_named at.1)

-- what a record calls the queue of which it says what was left
abbrev pub left_name : PlainLeft → ℕ × QueueId × ℕ
left_name l = (l.node, l.queue, l.prio)

-- of each queue of the scene it says so once, in this order, and of no other
abbrev pub AreQueuesLeft : PlainScene → PlainRecord → Type 0
AreQueuesLeft scene r = map left_name r.left ≡ map queue_name (queues_of scene)
