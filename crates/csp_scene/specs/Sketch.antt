-- What the lines read so far state.
use Rattle.std.specs.Prelude.{ℕ, Bool, true, false, List, [], ◌∷◌, ◌++◌, Option, None, Result, Ok, Err}
use Rattle.csp_scene.specs.Scene.{PlainNode, PlainLink, PlainSchedule}
use Rattle.csp_scene.specs.declared.refusal.SceneKind.{SceneKind}

-- a scene in the making: `until` and the schedule where they were given, the nodes, the links, the place of the node of the last `app` line,
-- and the places of the nodes that had their `rdp` line
pub record PlainSketch : Type 0 where
  pub until : Option ℕ
  pub schedule : Option PlainSchedule
  pub nodes : List PlainNode
  pub links : List PlainLink
  pub host : Option ℕ
  pub tuned : List ℕ

-- before the first line
abbrev pub no_sketch : PlainSketch
no_sketch = record { until = None; schedule = None; nodes = []; links = []; host = None; tuned = [] }

-- a test that a line has to pass, and the kind of a line that fails it
abbrev pub demand : {A : Type 0} → Bool → SceneKind → Result A SceneKind → Result A SceneKind
demand true kind next = next
demand false kind next = Err kind

-- what is done with an answer that is no refusal
abbrev pub and_then : {A B : Type 0} → Result A SceneKind → (A → Result B SceneKind) → Result B SceneKind
and_then (Ok a) next = next a
and_then (Err kind) next = Err kind

-- a sketch with one more node, with one more link
abbrev pub with_node : PlainNode → PlainSketch → PlainSketch
with_node node d = record d { nodes = d.nodes ++ node ∷ [] }

-- with a link more
abbrev pub with_link : PlainLink → PlainSketch → PlainSketch
with_link link d = record d { links = d.links ++ link ∷ [] }
