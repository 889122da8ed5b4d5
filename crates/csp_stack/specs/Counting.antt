-- what a router counts of its interfaces
use Rattle.std.specs.Prelude.{ℕ, List, length}
use Rattle.csp_buffer.specs.Content.{Content}
use Rattle.csp_log.specs.declared.places.QueueId.{QueueId}
use Rattle.csp_log.specs.declared.places.QueueId.TheVariants as queue
use Rattle.csp_service.specs.Counting.{counted}
use Rattle.csp_service.specs.declared.stats.Count.{Count}
use Rattle.csp_service.specs.declared.stats.Count.TheVariants.{Received, ReceivedBytes, SendErrors, Sent, SentBytes}
use Rattle.csp_service.specs.declared.stats.Stats.{Stats}
use Rattle.csp_stack.specs.Router.{State}

-- the state with these counts
abbrev pub with_stats : State → List Stats → State
with_stats s stats = record s { services = record s.services { stats = stats } }

-- so many more are counted of the interface with this number; an unmarked packet has none, and counts for none
abbrev pub counting : State → ℕ → Count → ℕ → State
counting s iface count by = with_stats s (counted s.services.stats iface count by)

-- a packet with this mark came from the inbox: it counts for the interface that it came in on, and so do the bytes of its payload as it was popped
abbrev pub came_in : State → ℕ → Content → State
came_in s mark b = counting (counting s mark Received 1) mark ReceivedBytes (length b.payload)

-- the counts once a packet with so many bytes of payload was pushed to a queue: to an `Out` it counts for the interface
abbrev pub sent_to : QueueId → ℕ → List Stats → List Stats
sent_to (queue.Out iface) bytes stats = counted (counted stats iface Sent 1) iface SentBytes bytes
sent_to _ bytes stats = stats

-- a packet of so many bytes went out by this queue: it is counted
abbrev pub went_out : State → QueueId → ℕ → State
went_out s queue bytes = with_stats s (sent_to queue bytes s.services.stats)

-- the counts once a queue was full: an `Out` that was counts for its interface
abbrev pub refused_by : QueueId → List Stats → List Stats
refused_by (queue.Out iface) stats = counted stats iface SendErrors 1
refused_by _ stats = stats

-- a packet found this queue full: it is counted
abbrev pub was_full : State → QueueId → State
was_full s queue = with_stats s (refused_by queue s.services.stats)
