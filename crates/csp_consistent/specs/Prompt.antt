-- Consistent, part 8: no party overlooks what earlier rounds left in a lane or an inbox, or finds no room that they made in a lane; of a pool, and of an
-- inbox that was full, the totals of the whole run come to what was found.
use Rattle.std.specs.Prelude.{◌≡◌, ◌<◌, ◌≤◌, ◌+◌, ⊤, ℕ, true, Some, List, [], ◌∷◌, ◌++◌, length, map, slice_get, if◌then◌else◌}
use Rattle.std.specs.List.{AllByRecursion, flat_map}
use Rattle.csp_base.specs.Priority.{prio_number}
use Rattle.csp_base.specs.declared.priority.Prio.{Prio}
use Rattle.csp_topology.specs.Writers.{writer_of}
use Rattle.csp_consistent.specs.Pools.{given_at, is_node, taken_at}
use Rattle.csp_consistent.specs.Reading.{entries_of, gets, is_queue, puts, with_mark, with_priority}
use Rattle.csp_consistent.specs.Rounds.{early}
use Rattle.csp_deck.specs.Carried.{priority_of}
use Rattle.csp_lists.specs.PlainDeck.{lane_room}
use Rattle.csp_log.specs.declared.entry.Entry.{Entry}
use Rattle.csp_log.specs.declared.places.QueueId.{QueueId}
use Rattle.csp_log.specs.declared.places.QueueId.TheVariants as queue
use Rattle.csp_log.specs.declared.shown.AnswerShown.{AnswerShown}
use Rattle.csp_log.specs.declared.shown.AnswerShown.TheVariants as answer
use Rattle.csp_log.specs.declared.shown.ItemShown.{ItemShown}
use Rattle.csp_log.specs.declared.shown.ItemShown.TheVariants as item
use Rattle.csp_log.specs.declared.shown.OpShown.{OpShown}
use Rattle.csp_log.specs.declared.shown.OpShown.TheVariants as op
use Rattle.csp_record.specs.Record.{PlainPartyLog, PlainRecord}
use Rattle.csp_log.specs.Who.{node_of}
use Rattle.csp_log.specs.declared.who.Who.{Who}
use Rattle.csp_scene.specs.Scene.{PlainNode, PlainScene}
use Rattle.csp_topology.specs.Lanes.{PlainLane, leader_of}
use Rattle.csp_topology.specs.Wires.{lanes_of}

-- it holds of each entry, with those before it
abbrev pub AllAfter : (List Entry → Entry → Type 0) → List Entry → List Entry → Type 0
AllAfter F before [] = ⊤
AllAfter F before (e ∷ es) = F before e × AllAfter F (before ++ e ∷ []) es

-- a look into the lane of this name that found nothing came after so many gets; the inbox is no lane
abbrev pub MissedNone : QueueId → ℕ → List Entry → OpShown → AnswerShown → Type 0
MissedNone q earlier before (op.Pop queue.Inbox) answer.Empty = ⊤
MissedNone q earlier before (op.Pop other) answer.Empty = is_queue q other ≡ true → earlier ≤ length (gets q before)
MissedNone q earlier before _ _ = ⊤

-- a push to the lane of this name that found no room came after so many puts
abbrev pub HadNoRoom : QueueId → ℕ → List Entry → OpShown → AnswerShown → Type 0
HadNoRoom q least before (op.Push other i) (answer.Full _) = is_queue q other ≡ true → least ≤ length (puts q before)
HadNoRoom q least before _ _ = ⊤

-- a lane with this room, which the one party calls p and puts into, and the other calls g and gets from: no look came before as many gets as
-- there were puts in earlier rounds, and no push was refused before as many puts as its room and the gets in earlier rounds
pub record IsLanePrompt (room : ℕ) (p : QueueId) (putter : List Entry) (g : QueueId) (getter : List Entry) : Type 0 where
  pub missed : AllAfter (λ before e. MissedNone g (length (puts p (early e.time putter))) before e.op e.answer) [] getter
  pub full : AllAfter (λ before e. HadNoRoom p (room + length (gets g (early e.time getter))) before e.op e.answer) [] putter

-- a lane of a record
abbrev pub IsPromptAt : PlainRecord → PlainLane → Type 0
IsPromptAt r l = IsLanePrompt (lane_room l.queue) l.from.queue (entries_of r l.from.who) l.to.queue (entries_of r l.to.who)

-- a pop of the inbox that found nothing, or gave a packet of a lower priority, passed over this one only after so many gets with a mark
abbrev pub PassedNone : Prio → ℕ → ℕ → List Entry → OpShown → AnswerShown → Type 0
PassedNone p mark earlier before (op.Pop queue.Inbox) answer.Empty = earlier ≤ length (with_mark mark (with_priority p (gets queue.Inbox before)))
PassedNone p mark earlier before (op.Pop queue.Inbox) (answer.Popped (item.Packet m b)) =
    prio_number p < prio_number (priority_of b) → earlier ≤ length (with_mark mark (with_priority p (gets queue.Inbox before)))
PassedNone p mark earlier before _ _ = ⊤

-- a push to the inbox of a packet of this priority found no room only where there are so many puts
abbrev pub CrammedAt : Prio → ℕ → ℕ → OpShown → AnswerShown → Type 0
CrammedAt p least puts (op.Push queue.Inbox i) (answer.Full _) = 0 < length (with_priority p (i ∷ [])) → least ≤ puts
CrammedAt p least puts _ _ = ⊤

-- of a priority, the one party that gets from an inbox passed over nothing that another, whose packets have this mark, had put in earlier rounds
abbrev pub PassesNone : Prio → ℕ → List Entry → List Entry → Type 0
PassesNone p mark putter getter =
    AllAfter (λ before e. PassedNone p mark (length (with_priority p (puts queue.Inbox (early e.time putter)))) before e.op e.answer) [] getter

-- what the parties of a node put into its inbox, of a priority
abbrev pub inbox_puts : PlainRecord → ℕ → Prio → List ItemShown
inbox_puts r node p = flat_map (λ log. if is_node node (node_of log.who) then with_priority p (puts queue.Inbox log.entries) else []) r.parties

-- a priority of the inbox of a node with this room, whatever the mark: nothing that its producer put in earlier rounds was passed over, and a push
-- of that producer was refused only where all puts are as many as the room and the gets in earlier rounds
pub record IsInboxPrompt (r : PlainRecord) (node room : ℕ) (hub : Who) (p : Prio) : Type 0 where
  pub passed : (mark : ℕ) → PassesNone p mark (entries_of r (writer_of node hub mark)) (entries_of r hub)
  pub full : (mark : ℕ) → AllByRecursion (λ e. CrammedAt p (room + length (with_priority p (gets queue.Inbox (early e.time (entries_of r hub))))) (length (inbox_puts r node p)) e.op e.answer)
      (entries_of r (writer_of node hub mark))

-- what a log says of earlier rounds
abbrev pub early_log : ℕ → PlainPartyLog → PlainPartyLog
early_log round log = record { who = log.who; entries = early round log.entries; step = log.step }

-- how many buffers the parties of a node gave to its pool, and took
abbrev pub gives_at : ℕ → List PlainPartyLog → ℕ
gives_at node logs = length (flat_map (given_at node) logs)

-- how many they took
abbrev pub takes_at : ℕ → List PlainPartyLog → ℕ
takes_at node logs = length (flat_map (taken_at node) logs)

-- a take found the pool empty only where so many takes are so many at least, and a give found it full only where so many gives are
abbrev pub LackedAt : (least_takes takes least_gives gives : ℕ) → OpShown → AnswerShown → Type 0
LackedAt least_takes takes least_gives gives op.Take answer.NoBuffer = least_takes ≤ takes
LackedAt least_takes takes least_gives gives (op.Give _) (answer.PoolFull _) = least_gives ≤ gives
LackedAt least_takes takes least_gives gives _ _ = ⊤

-- the pool of a node with so many buffers: a party of the node found it empty only where all takes are as many as these and the gives of earlier
-- rounds, and full only where all gives are as many as the takes of earlier rounds
abbrev pub IsPoolPrompt : PlainRecord → (node count : ℕ) → Type 0
IsPoolPrompt r node count =
    AllByRecursion (λ (log : PlainPartyLog). is_node node (node_of log.who) ≡ true → AllByRecursion (λ (e : Entry). LackedAt (count + gives_at node (map (early_log e.time) r.parties)) (takes_at node r.parties)
    (takes_at node (map (early_log e.time) r.parties)) (gives_at node r.parties) e.op e.answer) log.entries) r.parties

-- each lane, inbox and pool of the scene
pub record IsPrompt (scene : PlainScene) (r : PlainRecord) : Type 0 where
  pub lanes : AllByRecursion (IsPromptAt r) (lanes_of scene)
  pub inboxes : (node : ℕ) (n : PlainNode) → slice_get scene.nodes node ≡ Some n → (p : Prio) → IsInboxPrompt r node n.inbox (leader_of node n.addr) p
  pub pools : (node : ℕ) (n : PlainNode) → slice_get scene.nodes node ≡ Some n → IsPoolPrompt r node n.buffers
