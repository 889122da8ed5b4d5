-- Consistent, part 4: of each pool, the numbers at its opening together with those given are those taken together with those left; and
-- which place held which numbers at the end.
use Rattle.std.specs.Prelude.{◌≡◌, ℕ, ◌+◌, ◌==◌, Bool, false, if◌then◌else◌, Option, None, Some, List, [], ◌∷◌, ◌++◌, length, map, slice_get, slice_index_or}
use Rattle.std.specs.List.{flat_map, range_with_len}
use Rattle.std.specs.Option.{option_map, option_to_list}
use Rattle.csp_base.specs.Priority.{prio_of}
use Rattle.csp_deck.specs.Runs.{state_after}
use Rattle.csp_lists.specs.PlainDeck.{numbers_of}
use Rattle.csp_log.specs.Remains.{PlainLeft, PlainHeld}
use Rattle.csp_log.specs.declared.entry.Entry.{Entry}
use Rattle.csp_log.specs.declared.places.Place.{Place}
use Rattle.csp_log.specs.declared.places.Place.TheVariants as place
use Rattle.csp_log.specs.declared.places.QueueId.{QueueId}
use Rattle.csp_log.specs.declared.places.QueueId.TheVariants as queue
use Rattle.csp_log.specs.declared.shown.AnswerShown.{AnswerShown}
use Rattle.csp_log.specs.declared.shown.AnswerShown.TheVariants as answer
use Rattle.csp_log.specs.declared.shown.OpShown.{OpShown}
use Rattle.csp_log.specs.declared.shown.OpShown.TheVariants as op
use Rattle.csp_party.specs.Any.{holds}
use Rattle.csp_record.specs.Record.{PlainPartyLog, PlainRecord}
use Rattle.csp_log.specs.Who.{home_of, node_of}
use Rattle.csp_scene.specs.Scene.{PlainScene, PlainNode}
use Rattle.csp_topology.specs.Parties.{PlainOpening, parties_of, party_steps}
use Rattle.csp_consistent.specs.Promises.{IsPoolKept}
use Rattle.csp_consistent.specs.Whole.{AreQueuesLeft}

-- the number of a buffer that a turn gave to its pool, if it did, and of one that it took
abbrev pub given_by : OpShown → AnswerShown → List ℕ
given_by (op.Give b) answer.Given = b.number ∷ []
given_by _ _ = []

-- the number of the buffer that an answer brings from a pool
abbrev pub taken_by : AnswerShown → List ℕ
taken_by (answer.Taken b) = b.number ∷ []
taken_by _ = []

-- all that a party gave, and all that it took
abbrev pub given : List Entry → List ℕ
given es = flat_map (λ e. given_by e.op e.answer) es

-- the numbers that entries took from a pool
abbrev pub taken : List Entry → List ℕ
taken es = flat_map (λ e. taken_by e.answer) es

-- whether it is this node
abbrev pub is_node : ℕ → Option ℕ → Bool
is_node node None = false
is_node node (Some other) = other == node

-- what all parties of a node gave and took
abbrev pub given_at : ℕ → PlainPartyLog → List ℕ
given_at node log = (if is_node node (node_of log.who) then given log.entries else [])

-- those of a log, where its party is of this node
abbrev pub taken_at : ℕ → PlainPartyLog → List ℕ
taken_at node log = (if is_node node (node_of log.who) then taken log.entries else [])

-- the pool of a node with so many buffers, in which these were left, kept its promise of what the logs of the node's parties gave and took
abbrev pub IsPoolWhole : PlainRecord → (node count : ℕ) → List ℕ → Type 0
IsPoolWhole r node count left = IsPoolKept (range_with_len 0 count) (flat_map (given_at node) r.parties) (flat_map (taken_at node) r.parties) left

-- a queue held the numbers of what was left in it: of the inbox that of a priority
abbrev pub place_named : QueueId → ℕ → Place
place_named queue.Inbox prio = place.Inbox (prio_of prio)
place_named q prio = place.Lane q

-- what the record says that a queue held, where it says that this was left in it
abbrev pub left_held : PlainLeft → PlainHeld
left_held l = record { node = l.node; place = place_named l.queue l.prio; numbers = numbers_of l.items }

-- a party held those of its state after its last entry: a link has no place, and holds none
abbrev pub held_after : PlainOpening → PlainPartyLog → List ℕ
held_after o log = holds (state_after party_steps o.party log.entries)

-- what a place held that has these numbers
abbrev pub held_by : List ℕ → ℕ × Place → PlainHeld
held_by numbers home = record { node = home.0; place = home.1; numbers = numbers }

-- what the record says that a party held, if it has a place
abbrev pub party_held : PlainOpening → PlainPartyLog → List PlainHeld
party_held o log = option_to_list (option_map (held_by (held_after o log)) (home_of log.who))

-- what it says that the parties held, in their order
abbrev pub parties_held : List PlainOpening → List PlainPartyLog → List PlainHeld
parties_held (o ∷ os) (log ∷ logs) = party_held o log ++ parties_held os logs
parties_held _ _ = []

-- the pools held these, node by node
abbrev pub pools_held : ℕ → List (List ℕ) → List PlainHeld
pools_held node [] = []
pools_held node (numbers ∷ pools) = record { node = node; place = place.Pool; numbers = numbers } ∷ pools_held (node + 1) pools

-- each pool is whole, and each place held at the end what the record says
pub record AreNumbersKept (scene : PlainScene) (r : PlainRecord) : Type 0 where
  -- the numbers left in the pool of each node
  pub in_pools : List (List ℕ)
  pub nodes : length in_pools ≡ length scene.nodes
  -- none of them was lost or made
  pub pools : (node : ℕ) (n : PlainNode) → slice_get scene.nodes node ≡ Some n → IsPoolWhole r node n.buffers (slice_index_or in_pools node [])
  -- the record says of each queue what was left there, and of each place what it held: the queues, the parties, the pools; and nothing else
  pub left : AreQueuesLeft scene r
  pub held : r.held ≡ map left_held r.left ++ (parties_held (parties_of scene) r.parties ++ pools_held 0 in_pools)
