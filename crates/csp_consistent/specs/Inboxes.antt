-- Consistent, part 3: of each priority of an inbox, what the one party that pops it got, followed by what was left, has each producer's
-- puts in that producer's order, and nothing else.
use Rattle.std.specs.Prelude.{◌≡◌, ℕ, Some, List, ◌++◌, slice_get}
use Rattle.csp_base.specs.declared.priority.Prio.{Prio}
use Rattle.csp_base.specs.Priority.{prio_number}
use Rattle.csp_log.specs.declared.places.QueueId.TheVariants as queue
use Rattle.csp_log.specs.declared.shown.ItemShown.{ItemShown}
use Rattle.csp_record.specs.Record.{PlainRecord}
use Rattle.csp_log.specs.declared.who.Who.{Who}
use Rattle.csp_scene.specs.Scene.{PlainScene, PlainNode}
use Rattle.csp_topology.specs.Lanes.{leader_of}
use Rattle.csp_topology.specs.Writers.{writer_of}
use Rattle.csp_consistent.specs.Promises.{IsInboxKept}
use Rattle.csp_consistent.specs.Reading.{entries_of, gets, left_in, puts, with_priority}

-- what was put into the inbox of a node with this mark, of a priority
abbrev pub put_with : PlainRecord → ℕ → Who → Prio → ℕ → List ItemShown
put_with r node hub p mark = with_priority p (puts queue.Inbox (entries_of r (writer_of node hub mark)))

-- the packets of a priority that came through the inbox of a node, in the order in which they came: those that were got, then those left
abbrev pub came_through : PlainRecord → ℕ → Who → Prio → List ItemShown
came_through r node hub p = with_priority p (gets queue.Inbox (entries_of r hub)) ++ left_in r node queue.Inbox (prio_number p)

-- an inbox at one node kept its promise of what the logs of its parties put and got and what the record says was left
abbrev pub IsInboxInOrder : PlainRecord → ℕ → Who → Type 0
IsInboxInOrder r node hub = IsInboxKept (put_with r node hub) (gets queue.Inbox (entries_of r hub)) (λ p. left_in r node queue.Inbox (prio_number p))

-- the inbox of each node of a scene is in order
abbrev pub AreInboxesInOrder : PlainScene → PlainRecord → Type 0
AreInboxesInOrder scene r = (node : ℕ) (n : PlainNode) → slice_get scene.nodes node ≡ Some n → IsInboxInOrder r node (leader_of node n.addr)
