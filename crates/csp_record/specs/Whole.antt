-- each buffer number of each node was in exactly one place when a run ended
use Rattle.std.specs.Prelude.{ℕ, ◌≡◌, ◌==◌, List, sum_by, if◌then◌else◌, slice_get, Some}
use Rattle.std.specs.List.{range_with_len}
use Rattle.csp_log.specs.Remains.{PlainHeld}
use Rattle.csp_record.specs.Record.{PlainRecord}

-- the weight of the numbers that a place holds, where it is a place of this node: with the weight 1 it counts
-- them, and with the weight 1 for one number and 0 for the others it counts how often that number is there
abbrev pub weight_at : ℕ → (ℕ → ℕ) → PlainHeld → ℕ
weight_at node weight held = (if held.node == node then sum_by weight held.numbers else 0)

-- by every weight, the places of a node hold together just the numbers from 0 up to its count of buffers: each once
abbrev pub IsWholeNode : PlainRecord → ℕ → ℕ → Type 0
IsWholeNode r node count = (weight : ℕ → ℕ) → sum_by (weight_at node weight) r.held ≡ sum_by weight (range_with_len 0 count)

-- by every weight, the places of each node hold together just its numbers, the nodes having so many buffers in their order
abbrev pub IsWhole : List ℕ → PlainRecord → Type 0
IsWhole counts r = (node count : ℕ) → slice_get counts node ≡ Some count → IsWholeNode r node count
