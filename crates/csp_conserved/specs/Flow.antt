-- Flow: each number of each node's buffers is held at the end by just one place, once.
use Rattle.std.specs.Prelude.{◌≡◌, ℕ, ◌==◌, if◌then◌else◌, Some, List, [], slice_get}
use Rattle.std.specs.List.{flat_map, range_with_len}
use Rattle.csp_deck.specs.Step.{times}
use Rattle.csp_log.specs.Remains.{PlainHeld}
use Rattle.csp_record.specs.Record.{PlainRecord}
use Rattle.csp_scene.specs.Scene.{PlainScene, PlainNode}

-- the numbers that a place holds, where it is a place of this node
abbrev pub numbers_there : ℕ → PlainHeld → List ℕ
numbers_there node held = (if held.node == node then held.numbers else [])

-- all that the places of a node hold: each number as often as they do
abbrev pub numbers_at : ℕ → PlainRecord → List ℕ
numbers_at node r = flat_map (numbers_there node) r.held

-- the places of each node hold together each number of its buffers once, and no other
abbrev pub IsFlow : PlainScene → PlainRecord → Type 0
IsFlow scene r = (node : ℕ) (n : PlainNode) → slice_get scene.nodes node ≡ Some n → (k : ℕ) → times k (numbers_at node r) ≡ times k (range_with_len 0 n.buffers)
