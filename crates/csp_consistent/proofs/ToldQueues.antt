-- What the promises of a scene's queues are to a record that tells of them.
use Rattle.std.proofs.Common.{◌≡◌, ℕ, Some, [], ◌++◌, sym, ◌∙◌, slice_get}
use Rattle.std.specs.List.{AllByRecursion, range_with_len}
use Rattle.std.specs.Prelude.{slice_index_or}
use Rattle.std.proofs.Math.Path.{transport}
use Rattle.csp_base.specs.Priority.{prio_number}
use Rattle.csp_base.specs.declared.priority.Prio.{Prio}
use Rattle.csp_consistent.proofs.OwnQueues.{uses}
use Rattle.csp_consistent.proofs.Owners.{are_owners}
use Rattle.csp_consistent.proofs.Writers.{all_put}
use Rattle.csp_consistent.specs.Inboxes.{AreInboxesInOrder, put_with}
use Rattle.csp_consistent.specs.Lanes.{AreInOrder, IsInOrder}
use Rattle.csp_consistent.specs.Pools.{AreNumbersKept}
use Rattle.csp_consistent.specs.Promises.{IsLaneKept, IsPoolKept, IsPriorityKept}
use Rattle.csp_consistent.specs.Reading.{entries_of, gets, left_in, with_mark, with_priority}
use Rattle.csp_consistent.specs.Runs.{AreLogsOf}
use Rattle.csp_consistent.specs.Told.{AreQueuesTold, IsLaneTold, IsPriorityTold}
use Rattle.csp_deck.specs.Carried.{IsCarried}
use Rattle.csp_log.specs.declared.places.QueueId.TheVariants as queue
use Rattle.csp_log.specs.declared.places.Rule.TheVariants as rule
use Rattle.csp_lists.specs.PlainDeck.{lane_room}
use Rattle.csp_record.specs.Record.{PlainRecord}
use Rattle.csp_scene.proofs.Public.{AllByRecursion-map}
use Rattle.csp_scene.specs.Ranges.{IsScene}
use Rattle.csp_scene.specs.Scene.{PlainNode, PlainScene}
use Rattle.csp_topology.specs.Lanes.{PlainLane, leader_of}
use Rattle.csp_topology.specs.Wires.{lanes_of}
use Rattle.csp_topology.specs.Parties.{parties_of}

lane_in_order : (r : PlainRecord) (l : PlainLane) → IsLaneTold r l → IsInOrder r l
lane_in_order r l t = record { kept = transport (λ i. IsLaneKept (lane_room l.queue) (t.puts i) (t.gets i) (t.noted i)) t.kept; full = t.full }

-- with a mark is what its writer put
module _ (scene : PlainScene) (r : PlainRecord) (is : IsScene scene) (are : AreLogsOf (parties_of scene) r.parties) where
  priority_in_order : (node : ℕ) (x : PlainNode) → slice_get scene.nodes node ≡ Some x → (p : Prio) → (t : IsPriorityTold r node (leader_of node x.addr) p)
      → IsPriorityKept p (put_with r node (leader_of node x.addr) p) (with_priority p (gets queue.Inbox (entries_of r (leader_of node x.addr)))) (left_in r node queue.Inbox (prio_number p))
  priority_in_order node x at p t = record {
    order = λ mark.
        (λ i. with_mark mark (sym t.gets i ++ sym t.noted i))
        ∙ t.kept.order mark
        ∙ t.puts mark
        ∙ all_put scene is.few_links node x at mark p (parties_of scene) r.parties are (are_owners scene) (uses scene r.parties are);
    carried = transport (λ i. AllByRecursion (IsCarried (rule.Priority p)) (t.gets i ++ t.noted i)) t.kept.carried;
  }

  pub lanes_told : AreQueuesTold scene r → AreInOrder scene r
  lanes_told t = AllByRecursion-map (IsLaneTold r) (IsInOrder r) (lanes_of scene) (lane_in_order r) t.lanes

  pub inboxes_told : AreQueuesTold scene r → AreInboxesInOrder scene r
  inboxes_told t node x at = let told = t.inboxes node x at in record { priorities = λ p. priority_in_order node x at p (told.priorities p); got = told.got }

  pub numbers_told : AreQueuesTold scene r → AreNumbersKept scene r
  numbers_told t = record {
    in_pools = t.in_pools;
    nodes = t.nodes;
    pools = λ node x at. let pool = t.pools node x at in transport (λ i. IsPoolKept (range_with_len 0 x.buffers) (pool.gives i) (pool.takes i) (slice_index_or t.in_pools node [])) pool.kept;
    left = t.left;
    held = t.held;
  }
