-- what is taken back from a deck at the end, and what is noted of it
use Rattle.std.specs.Prelude.{ℕ, List, map}
use Rattle.csp_buffer.specs.Content.{Content}
use Rattle.csp_buffer.specs.PlainBuffer.{PlainBuffer}
use Rattle.csp_base.specs.Priority.{prio_number}
use Rattle.csp_lists.specs.PlainDeck.{PlainQueue, PlainDeck, buffer_numbers, numbers_of, numbers_among}
use Rattle.csp_log.specs.Remains.{PlainLeft, PlainHeld}
use Rattle.csp_log.specs.declared.places.Place.{Place}
use Rattle.csp_log.specs.declared.places.Place.TheVariants as place
use Rattle.csp_log.specs.declared.places.QueueId.{QueueId}
use Rattle.csp_log.specs.declared.places.QueueId.TheVariants as queue

-- the name of the queue at a place; a place that is no lane has that of the inbox
abbrev pub queue_named : Place → QueueId
queue_named (place.Lane q) = q
queue_named _ = queue.Inbox

-- the number of its priority; a place outside the inbox has 0
abbrev pub prio_named : Place → ℕ
prio_named (place.Inbox p) = prio_number p
prio_named _ = 0

-- what is noted of a queue for this node: what was left in it
abbrev pub left_at : ℕ → PlainQueue → PlainLeft
left_at node q = record { node = node; queue = queue_named q.place; prio = prio_named q.place; items = q.items }

-- which buffers a queue of a node held
abbrev pub held_at : ℕ → PlainQueue → PlainHeld
held_at node q = record { node = node; place = q.place; numbers = numbers_of q.items }

-- the numbers of the buffers in the queues, in their order
abbrev pub queued_numbers : PlainDeck → List ℕ
queued_numbers d = numbers_among d.queues

-- the pictures of buffers, and their numbers
abbrev pub pictures : List PlainBuffer → List Content
pictures bs = map (λ b. b.picture) bs

-- the numbers of buffers that came back
abbrev pub numbers_back : List PlainBuffer → List ℕ
numbers_back bs = buffer_numbers (pictures bs)
