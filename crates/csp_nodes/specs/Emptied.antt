-- A node whose queues were emptied.
use Rattle.std.specs.Prelude.{ℕ, ◌≡◌, ◌+◌, ◌++◌, List, length, map}
use Rattle.std.specs.List.{range_with_len}
use Rattle.csp_arena.specs.Cells.{RegionName}
use Rattle.csp_buffer.specs.Content.{Content}
use Rattle.csp_lists.specs.PlainDeck.{buffer_numbers}
use Rattle.csp_lists.specs.PlainFifo.{PlainFifo}
use Rattle.csp_deck.specs.Step.{times}

-- its pool, and the numbers of the buffers that were taken back so far
pub record PlainEmptied : Type 0 where
  pub pool : PlainFifo Content
  pub gathered : List ℕ

-- the same, and the region of its buffers
pub record EmptiedAt : Type 0 where
  pub region : RegionName
  pub emptied : PlainEmptied

-- what is left of each node
abbrev pub emptied_in : List EmptiedAt → List PlainEmptied
emptied_in es = map (λ e. e.emptied) es

-- with the buffers of these numbers taken back besides
abbrev pub with_gathered : List ℕ → PlainEmptied → PlainEmptied
with_gathered numbers e = record e { gathered = e.gathered ++ numbers }

-- what is taken back and what is in the pool are together all buffers of the node: each number once
pub record IsComplete (e : PlainEmptied) : Type 0 where
  pub fits : length e.gathered + length e.pool.items ≡ e.pool.room
  pub once : (k : ℕ) → times k e.gathered + times k (buffer_numbers e.pool.items) ≡ times k (range_with_len 0 e.pool.room)
