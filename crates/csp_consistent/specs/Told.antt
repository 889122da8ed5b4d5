-- What each queue of a scene promised of a run, and that a record tells of it: what was put there, got there and left there is what the logs of
-- its parties and the record's notes say.
use Rattle.std.specs.Prelude.{◌≡◌, ℕ, Some, List, [], ◌++◌, length, map, slice_get, slice_index_or}
use Rattle.std.specs.List.{AllByRecursion, flat_map, range_with_len}
use Rattle.csp_base.specs.Priority.{prio_number}
use Rattle.csp_base.specs.declared.priority.Prio.{Prio}
use Rattle.csp_consistent.specs.Lanes.{IsFullAfter}
use Rattle.csp_consistent.specs.Pools.{given_at, left_held, parties_held, pools_held, taken_at}
use Rattle.csp_consistent.specs.Promises.{IsLaneKept, IsPoolKept, IsPriorityKept}
use Rattle.csp_consistent.specs.Prompt.{inbox_puts}
use Rattle.csp_consistent.specs.Reading.{entries_of, gets, left_in, puts, with_mark, with_priority}
use Rattle.csp_consistent.specs.Whole.{AreQueuesLeft}
use Rattle.csp_deck.specs.Carried.{IsCarried}
use Rattle.csp_lists.specs.PlainDeck.{lane_room}
use Rattle.csp_log.specs.declared.places.QueueId.TheVariants as queue
use Rattle.csp_log.specs.declared.places.Rule.TheVariants as rule
use Rattle.csp_log.specs.declared.shown.ItemShown.{ItemShown}
use Rattle.csp_log.specs.declared.who.Who.{Who}
use Rattle.csp_record.specs.Record.{PlainRecord}
use Rattle.csp_scene.specs.Scene.{PlainNode, PlainScene}
use Rattle.csp_topology.specs.Lanes.{PlainLane, leader_of}
use Rattle.csp_topology.specs.Wires.{lanes_of}
use Rattle.csp_topology.specs.Parties.{parties_of}

-- a lane kept its promise; the one party's log has what was put, the other's what was got, and no push there was refused too early
pub record IsLaneTold (r : PlainRecord) (l : PlainLane) : Type 0 where
  pub put : List ItemShown
  pub got : List ItemShown
  pub left : List ItemShown
  pub kept : IsLaneKept (lane_room l.queue) put got left
  pub puts : put ≡ puts l.from.queue (entries_of r l.from.who)
  pub gets : got ≡ gets l.to.queue (entries_of r l.to.who)
  pub noted : left ≡ left_in r l.node l.queue 0
  pub full : IsFullAfter (lane_room l.queue) l.from.queue (entries_of r l.from.who)

-- a priority of the inbox of a node kept its promise of all that was put there, whoever put it; the logs of the node's parties have that, and the
-- log of its router or bridge what was got
pub record IsPriorityTold (r : PlainRecord) (node : ℕ) (hub : Who) (p : Prio) : Type 0 where
  pub put : List ItemShown
  pub got : List ItemShown
  pub left : List ItemShown
  pub kept : IsPriorityKept p (λ mark. with_mark mark put) got left
  pub puts : (mark : ℕ) → with_mark mark put ≡ with_mark mark (inbox_puts r node p)
  pub gets : got ≡ with_priority p (gets queue.Inbox (entries_of r hub))
  pub noted : left ≡ left_in r node queue.Inbox (prio_number p)

-- each priority of it did; and all that was got is what an inbox carries
pub record IsInboxTold (r : PlainRecord) (node : ℕ) (hub : Who) : Type 0 where
  pub priorities : (p : Prio) → IsPriorityTold r node hub p
  pub got : AllByRecursion (IsCarried rule.Inbox) (gets queue.Inbox (entries_of r hub))

-- a pool of so many buffers kept its promise, with these left; the logs of the node's parties have what was given and taken
pub record IsPoolTold (r : PlainRecord) (node count : ℕ) (left : List ℕ) : Type 0 where
  pub given : List ℕ
  pub taken : List ℕ
  pub kept : IsPoolKept (range_with_len 0 count) given taken left
  pub gives : given ≡ flat_map (given_at node) r.parties
  pub takes : taken ≡ flat_map (taken_at node) r.parties

-- each lane, inbox and pool of the scene; the record notes of each queue what was left there, and of each place what it held, and of no other
pub record AreQueuesTold (scene : PlainScene) (r : PlainRecord) : Type 0 where
  pub lanes : AllByRecursion (IsLaneTold r) (lanes_of scene)
  pub inboxes : (node : ℕ) (n : PlainNode) → slice_get scene.nodes node ≡ Some n → IsInboxTold r node (leader_of node n.addr)
  pub in_pools : List (List ℕ)
  pub nodes : length in_pools ≡ length scene.nodes
  pub pools : (node : ℕ) (n : PlainNode) → slice_get scene.nodes node ≡ Some n → IsPoolTold r node n.buffers (slice_index_or in_pools node [])
  pub left : AreQueuesLeft scene r
  pub held : r.held ≡ map left_held r.left ++ (parties_held (parties_of scene) r.parties ++ pools_held 0 in_pools)
