-- the queues of a deck in one list: which there are, in which order, and where each stands
use Rattle.std.specs.Prelude.{ℕ, ◌+◌, ◌*◌, List, ◌++◌, map, Option, Some, None, nat_lt, cond}
use Rattle.std.specs.List.{range_with_len}
use Rattle.csp_base.specs.Priority.{prio_number}
use Rattle.csp_deck.specs.Carried.{places_of}
use Rattle.csp_lists.specs.declared.shape.Shape.{Shape}
use Rattle.csp_log.specs.declared.places.Place.{Place}
use Rattle.csp_log.specs.declared.places.Place.TheVariants as place
use Rattle.csp_log.specs.declared.places.QueueId.{QueueId}
use Rattle.csp_log.specs.declared.places.QueueId.TheVariants as queue

-- so many lanes of a kind, by number
abbrev pub lanes : (ℕ → QueueId) → ℕ → List Place
lanes name count = map (λ k. place.Lane (name k)) (range_with_len 0 count)

-- the places of all queues, in the order in which they are taken back at the end: Rx, Tx, Out, Down, Up, the inbox
abbrev pub places_in : Shape → List Place
places_in s =
    lanes queue.Rx s.ifaces
    ++ (lanes queue.Tx s.ifaces
    ++ (lanes queue.Out s.ifaces ++ (lanes queue.Down s.apps ++ (lanes queue.Up s.apps ++ places_of queue.Inbox))))

-- how many queues a deck of this shape has
abbrev pub queue_count : Shape → ℕ
queue_count s = 3 * s.ifaces + 2 * s.apps + 4

-- where the lane of this number stands, of so many whose first stands at this position
abbrev pub nth_from : ℕ → ℕ → ℕ → Option ℕ
nth_from first count k = cond (nat_lt k count) (Some (first + k)) None

-- where the queue of a place stands, if there is one
abbrev pub position_of : Shape → Place → Option ℕ
position_of s (place.Inbox p) = Some (3 * s.ifaces + 2 * s.apps + prio_number p)
position_of s (place.Lane (queue.Up k)) = nth_from (3 * s.ifaces + s.apps) s.apps k
position_of s (place.Lane (queue.Down k)) = nth_from (3 * s.ifaces) s.apps k
position_of s (place.Lane (queue.Out k)) = nth_from (2 * s.ifaces) s.ifaces k
position_of s (place.Lane (queue.Tx k)) = nth_from s.ifaces s.ifaces k
position_of s (place.Lane (queue.Rx k)) = nth_from 0 s.ifaces k
position_of s _ = None
