-- What `rdp` lines state.
use Rattle.std.specs.Prelude.{ℕ, ◌==◌, Bool, not, List, [], ◌∷◌, ◌++◌, slice_set, Option, Some, None, Result, Ok, Err}
use Rattle.std.specs.List.{list_any}
use Rattle.csp_rdp_header.specs.declared.options.Options.{Options}
use Rattle.csp_scene.specs.declared.refusal.SceneKind.{SceneKind}
use Rattle.csp_scene.specs.declared.refusal.SceneKind.TheVariants as kind
use Rattle.csp_scene.specs.Scene.{PlainNode}
use Rattle.csp_scene.specs.Links.{node_at}
use Rattle.csp_scene.specs.Naming.{router_named}
use Rattle.csp_scene.specs.Arguments.{word_at, number_at}
use Rattle.csp_scene.specs.Sketch.{PlainSketch, demand}

-- the options that a line gives: its numbers in their order
abbrev pub given_options : List (List ℕ) → Options
given_options args = record {
  window = number_at args 1;
  conn_timeout = number_at args 2;
  packet_timeout = number_at args 3;
  delayed = number_at args 4;
  ack_timeout = number_at args 5;
  ack_count = number_at args 6;
}

-- whether the node in a place had its line
abbrev pub is_tuned : PlainSketch → ℕ → Bool
is_tuned d place = list_any (λ other. other == place) d.tuned

-- a sketch in which the node in a place has these options, and had its line
abbrev pub with_rdp : Options → PlainNode → PlainNode
with_rdp options node = record node { options = options }

-- with these options of the node at a place, which has had its `rdp` line
abbrev pub with_rdp_at : ℕ → Options → PlainSketch → PlainSketch
with_rdp_at place options d = record d { nodes = slice_set d.nodes place (with_rdp options (node_at d.nodes place)); tuned = d.tuned ++ place ∷ [] }

-- `rdp NODE W CT PT DA AT AC`: once for a node, which is no bridge
abbrev pub state_rdp_at : PlainSketch → Options → Option ℕ → Result PlainSketch SceneKind
state_rdp_at d options None = Err kind.Unknown
state_rdp_at d options (Some place) = demand (not (is_tuned d place)) kind.Twice (Ok (with_rdp_at place options d))

-- what an `rdp` line adds
abbrev pub state_rdp : PlainSketch → List (List ℕ) → Result PlainSketch SceneKind
state_rdp d args = state_rdp_at d (given_options args) (router_named (word_at args 0) d.nodes)
