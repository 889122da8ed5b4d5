-- a node's pool and queues as plain bounded lists, and what they answer
use Rattle.std.specs.Prelude.{◌≡◌, ℕ, ◌≤◌, List, [], ◌∷◌, ◌++◌, length, All, map, replicate, Option, Some, None, Result, ⊤, IsSomeAnd, IfErr, IfSome, MatchOption, MatchResult, Bool, false, slice_get, slice_set, slice_index_or, nat_lt, cond}
use Rattle.std.specs.List.{flat_map, AllByRecursion}
use Rattle.std.specs.Option.{option_map, option_and_then}
use Rattle.csp_arena.specs.Cells.{RegionName}
use Rattle.csp_base.specs.declared.priority.Prio.{Prio}
use Rattle.csp_base.specs.declared.priority.Prio.TheVariants.{Critical, High, Normal, Low}
use Rattle.csp_buffer.specs.Content.{Content, cleared}
use Rattle.csp_deck.specs.Carried.{IsCarriedIn, place_for, places_of, passed_over}
use Rattle.csp_lists.specs.Order.{places_in, position_of}
use Rattle.csp_lists.specs.PlainFifo.{PlainFifo, with_items}
use Rattle.csp_deck.specs.Step.{item_numbers, times}
use Rattle.csp_lists.specs.declared.shape.Shape.{Shape}
use Rattle.csp_log.specs.declared.shown.ItemShown.{ItemShown}
use Rattle.csp_log.specs.declared.shown.OpShown.{OpShown}
use Rattle.csp_log.specs.declared.shown.OpShown.TheVariants as op
use Rattle.csp_log.specs.declared.shown.AnswerShown.{AnswerShown}
use Rattle.csp_log.specs.declared.shown.AnswerShown.TheVariants as answer
use Rattle.csp_log.specs.declared.places.Carries.{Carries}
use Rattle.csp_log.specs.declared.places.Carries.TheVariants as lane
use Rattle.csp_log.specs.declared.places.Place.{Place}
use Rattle.csp_log.specs.declared.places.Place.TheVariants as place
use Rattle.csp_log.specs.declared.places.QueueId.{QueueId}
use Rattle.csp_log.specs.declared.places.QueueId.TheVariants as queue
use Rattle.csp_log.specs.declared.places.Rule.{Rule}
use Rattle.csp_log.specs.declared.places.Rule.TheVariants as rule
use Rattle.csp_log.specs.declared.places.TheConstants.{UP_ROOM, DOWN_ROOM, OUT_ROOM, LINK_ROOM}

-- a queue: where it stands, what it carries, for how many items it has room, and its items, the first first
pub record PlainQueue : Type 0 where
  pub place : Place
  pub rule : Rule
  pub room : ℕ
  pub items : List ItemShown

-- the pool, how many interfaces and applications there are, and the queues, in the order of their places
pub record PlainDeck : Type 0 where
  pub pool : PlainFifo Content
  pub shape : Shape
  pub queues : List PlainQueue

-- the deck, and the region of all its buffers
pub record DeckAt : Type 0 where
  pub region : RegionName
  pub deck : PlainDeck

-- a queue with other items
abbrev pub refilled : PlainQueue → List ItemShown → PlainQueue
refilled q items = record q { items = items }

-- the queue of a place, if the deck has it
abbrev pub queue_at : PlainDeck → Place → Option PlainQueue
queue_at d p = option_and_then (λ at. slice_get d.queues at) (position_of d.shape p)

-- queues with another one at this position
abbrev pub with_nth : List PlainQueue → Option ℕ → PlainQueue → List PlainQueue
with_nth qs None q = qs
with_nth qs (Some at) q = slice_set qs at q

-- the deck with another queue at that place
abbrev pub with_queue : PlainDeck → Place → PlainQueue → PlainDeck
with_queue d p q = record d { queues = with_nth d.queues (position_of d.shape p) q }

-- the deck with other buffers in its pool
abbrev pub with_pool : PlainDeck → List Content → PlainDeck
with_pool d buffers = record d { pool = with_items d.pool buffers }

-- what each queue carries
abbrev pub rule_of : PlainDeck → QueueId → Option Rule
rule_of d queue.Inbox = Some rule.Inbox
rule_of d l = option_map (λ q. q.rule) (queue_at d (place.Lane l))

-- a take gives the pool's first buffer, cleared
abbrev pub taken : PlainDeck → List Content → AnswerShown × PlainDeck
taken d [] = (answer.NoBuffer, d)
taken d (b ∷ buffers) = (answer.Taken (cleared b.number), with_pool d buffers)

-- a give appends the buffer where the pool has room
abbrev pub given : PlainDeck → Content → AnswerShown × PlainDeck
given d b = cond (nat_lt (length d.pool.items) d.pool.room) (answer.Given, with_pool d (d.pool.items ++ b ∷ [])) (answer.PoolFull b, d)

-- a push appends the item where its queue has room
abbrev pub pushed : PlainDeck → Place → ItemShown → Option PlainQueue → AnswerShown × PlainDeck
pushed d p i None = (answer.Full i, d)
pushed d p i (Some q) = cond (nat_lt (length q.items) q.room) (answer.Pushed, with_queue d p (refilled q (q.items ++ i ∷ []))) (answer.Full i, d)

-- whether there is a queue that has an item
abbrev pub has_items : Option PlainQueue → Bool
has_items None = false
has_items (Some q) = nat_lt 0 (length q.items)

-- whether the inbox has a packet of this priority
abbrev pub has_packet : PlainDeck → Prio → Bool
has_packet d p = has_items (queue_at d (place.Inbox p))

-- the most urgent priority of which it has one, and the lowest where it has none
abbrev pub first_with : Bool → Bool → Bool → Prio
first_with critical high normal = cond critical Critical (cond high High (cond normal Normal Low))

-- the most urgent priority of which the inbox has a packet; Low where it has none of the others
abbrev pub most_urgent : PlainDeck → Prio
most_urgent d = first_with (has_packet d Critical) (has_packet d High) (has_packet d Normal)

-- where a pop of this queue takes its item, if there is one
abbrev pub pops_at : PlainDeck → QueueId → Place
pops_at d queue.Inbox = place.Inbox (most_urgent d)
pops_at d l = place.Lane l

-- a pop takes the first item there, if there is one
abbrev pub front_of : PlainDeck → Place → PlainQueue → List ItemShown → AnswerShown × PlainDeck
front_of d p q [] = (answer.Empty, d)
front_of d p q (i ∷ items) = (answer.Popped i, with_queue d p (refilled q items))

-- the pop of a queue, if there is one, and the deck afterwards
abbrev pub popped : PlainDeck → Place → Option PlainQueue → AnswerShown × PlainDeck
popped d p None = (answer.Empty, d)
popped d p (Some q) = front_of d p q q.items

-- what an operation is answered, and the deck after it
abbrev pub answer_of : PlainDeck → OpShown → AnswerShown × PlainDeck
answer_of d op.Nothing = (answer.Nothing, d)
answer_of d op.Take = taken d d.pool.items
answer_of d (op.Give b) = given d b
answer_of d (op.Push q i) = pushed d (place_for q i) i (queue_at d (place_for q i))
answer_of d (op.Pop q) = popped d (pops_at d q) (queue_at d (pops_at d q))

-- a place has nothing, and has no room
abbrev pub IsEmptyAt : PlainDeck → Place → Type 0
IsEmptyAt d place.Pool = d.pool.items ≡ []
IsEmptyAt d p = IsSomeAnd (queue_at d p) (λ q. q.items ≡ [])

-- a place has no room
abbrev pub IsFullAt : PlainDeck → Place → Type 0
IsFullAt d place.Pool = d.pool.room ≤ length d.pool.items
IsFullAt d p = IsSomeAnd (queue_at d p) (λ q. q.room ≤ length q.items)

-- what a lane carries, where the links of the interfaces carry these, and for how many items it has room
abbrev pub lane_rule : List Carries → QueueId → Rule
lane_rule links (queue.Up _) = rule.Lane lane.Up
lane_rule links (queue.Down _) = rule.Lane lane.Down
lane_rule links (queue.Out _) = rule.Lane lane.Out
lane_rule links (queue.Tx k) = rule.Lane (slice_index_or links k lane.Kiss)
lane_rule links (queue.Rx k) = rule.Lane (slice_index_or links k lane.Kiss)
lane_rule links queue.Inbox = rule.Inbox

-- the room of a lane by its kind
abbrev pub lane_room : QueueId → ℕ
lane_room (queue.Up _) = UP_ROOM
lane_room (queue.Down _) = DOWN_ROOM
lane_room (queue.Out _) = OUT_ROOM
lane_room (queue.Tx _) = LINK_ROOM
lane_room (queue.Rx _) = LINK_ROOM
lane_room queue.Inbox = 0

-- the same of the queue of a place, where each queue of the inbox has so much room
abbrev pub rule_at : List Carries → Place → Rule
rule_at links (place.Inbox p) = rule.Priority p
rule_at links (place.Lane l) = lane_rule links l
rule_at links _ = rule.Inbox

-- the room of a place, where this is the inbox's room for each priority
abbrev pub room_at : ℕ → Place → ℕ
room_at inbox (place.Inbox _) = inbox
room_at inbox (place.Lane l) = lane_room l
room_at inbox _ = 0

-- the empty queue of a place
abbrev pub opening_queue : ℕ → List Carries → Place → PlainQueue
opening_queue inbox links p = record { place = p; rule = rule_at links p; room = room_at inbox p; items = [] }

-- all queues of a shape, empty
abbrev pub opening_queues : ℕ → List Carries → Shape → List PlainQueue
opening_queues inbox links s = map (opening_queue inbox links) (places_in s)

-- a deck for so many applications and an interface for each of these links
abbrev pub shape_of : ℕ → List Carries → Shape
shape_of apps links = record { ifaces = length links; apps = apps }

-- the deck at the opening: these buffers fill the pool, and every queue is empty
abbrev pub opening_deck : List Content → ℕ → ℕ → List Carries → PlainDeck
opening_deck buffers inbox apps links = record {
  pool = record { room = length buffers; items = buffers };
  shape = shape_of apps links;
  queues = opening_queues inbox links (shape_of apps links);
}

-- what an operation never changes of a queue: all but its items
abbrev pub emptied : PlainQueue → PlainQueue
emptied q = refilled q []

-- the numbers of these buffers
abbrev pub buffer_numbers : List Content → List ℕ
buffer_numbers buffers = flat_map (λ b. b.number ∷ []) buffers

-- the numbers of the buffers among these items
abbrev pub numbers_of : List ItemShown → List ℕ
numbers_of items = flat_map item_numbers items

-- the numbers of the buffers in these queues, queue by queue
abbrev pub numbers_among : List PlainQueue → List ℕ
numbers_among qs = flat_map (λ q. numbers_of q.items) qs

-- every buffer number in a deck
abbrev pub numbers_in : PlainDeck → List ℕ
numbers_in d = buffer_numbers d.pool.items ++ numbers_among d.queues

-- the places of these queues that hold the buffer of this number, each as often as it does
abbrev pub holders_among : List PlainQueue → ℕ → List Place
holders_among qs k = flat_map (λ q. replicate (times k (numbers_of q.items)) q.place) qs

-- the places of a deck that hold it
abbrev pub holders_of : PlainDeck → ℕ → List Place
holders_of d k = replicate (times k (buffer_numbers d.pool.items)) place.Pool ++ holders_among d.queues k

-- whether the buffer of this number is in a queue
abbrev pub is_in : ℕ → PlainQueue → Bool
is_in k q = nat_lt 0 (times k (numbers_of q.items))

-- each of these queues is empty
abbrev pub AllEmpty : List PlainQueue → Type 0
AllEmpty qs = All (λ q. q.items ≡ []) qs

-- every queue is empty
abbrev pub IsIdle : PlainDeck → Type 0
IsIdle d = AllEmpty d.queues

-- a rule of links: frames of one kind
abbrev pub IsLinkRule : Carries → Type 0
IsLinkRule lane.Kiss = ⊤
IsLinkRule lane.Can = ⊤
IsLinkRule _ = ⊥

-- the push of an item to a queue of the first deck was answered so, and left the second
pub record PushesSo (d : PlainDeck) (q : QueueId) (i : ItemShown) (r : Result (Unit {0}) ItemShown) (e : PlainDeck) : Type 0 where
  pub answer : MatchResult r (λ _. answer_of d (op.Push q i) ≡ (answer.Pushed, e)) (λ j. answer_of d (op.Push q i) ≡ (answer.Full j, e))
  pub full : IfErr r (λ _. IsFullAt d (place_for q i))
  pub back : IfErr r (λ j. j ≡ i)
  pub rules : (x : QueueId) → rule_of e x ≡ rule_of d x

-- the pop of a queue of the first deck brings this, with its cause, and leaves the second
pub record PopsSo (d : PlainDeck) (q : QueueId) (r : Option ItemShown) (e : PlainDeck) : Type 0 where
  pub answer : MatchOption r (answer_of d (op.Pop q) ≡ (answer.Empty, e)) (λ i. answer_of d (op.Pop q) ≡ (answer.Popped i, e))
  pub empty : MatchOption r (AllByRecursion (IsEmptyAt d) (places_of q)) (λ i. AllByRecursion (IsEmptyAt d) (passed_over q i))
  pub carried : IfSome r (λ i. IsCarriedIn (rule_of d q) i)
  pub rules : (x : QueueId) → rule_of e x ≡ rule_of d x
