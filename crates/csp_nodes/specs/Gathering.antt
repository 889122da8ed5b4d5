-- What is noted of the nodes' queues and pools at the end of a run.
use Rattle.std.specs.Prelude.{ℕ, ◌+◌, List, [], ◌∷◌, ◌++◌, length, map, sum_by}
use Rattle.csp_buffer.specs.Content.{Content}
use Rattle.csp_lists.specs.Gathered.{left_at, held_at}
use Rattle.csp_lists.specs.PlainDeck.{PlainDeck, buffer_numbers}
use Rattle.csp_lists.specs.PlainFifo.{PlainFifo}
use Rattle.csp_log.specs.Remains.{PlainLeft, PlainHeld}
use Rattle.csp_log.specs.declared.places.Place.TheVariants as place

-- how many queues there are
abbrev pub queue_count : List PlainDeck → ℕ
queue_count decks = sum_by (λ d. length d.queues) decks

-- what was left in the queues of each node, and which buffers they held, from this place on
abbrev pub all_left : ℕ → List PlainDeck → List PlainLeft
all_left node [] = []
all_left node (d ∷ decks) = map (left_at node) d.queues ++ all_left (node + 1) decks

-- which buffers each queue of these nodes holds, from this place on
abbrev pub queues_held : ℕ → List PlainDeck → List PlainHeld
queues_held node [] = []
queues_held node (d ∷ decks) = map (held_at node) d.queues ++ queues_held (node + 1) decks

-- which buffers the pools held
abbrev pub pools_held : ℕ → List (PlainFifo Content) → List PlainHeld
pools_held node [] = []
pools_held node (pool ∷ pools) = record { node = node; place = place.Pool; numbers = buffer_numbers pool.items } ∷ pools_held (node + 1) pools
