-- What `until`, `node`, `bridge`, `app` and step lines state.
use Rattle.std.specs.Prelude.{ℕ, ◌-◌, not, ◌||◌, nat_lt, List, [], ◌∷◌, ◌++◌, length, slice_index_or, slice_set, Option, Some, None, is_none, Result, Ok, Err}
use Rattle.std.specs.List.{list_any}
use Rattle.std.specs.Option.{unwrap_or}
use Rattle.std.specs.FinMap as finite
use Rattle.csp_app.specs.PlainStep.{PlainStep}
use Rattle.csp_rdp_header.specs.Options.{usual_options}
use Rattle.csp_base.specs.declared.limits.TheConstants.{MAX_APPS}
use Rattle.csp_scene.specs.declared.limits.TheConstants.{MAX_NODES, MAX_STEPS, DEFAULT_SEED, DEFAULT_INBOX}
use Rattle.csp_scene.specs.declared.table.Keyword.TheVariants as keyword
use Rattle.csp_scene.specs.declared.table.Part.{Part}
use Rattle.csp_scene.specs.declared.refusal.SceneKind.{SceneKind}
use Rattle.csp_scene.specs.declared.refusal.SceneKind.TheVariants as kind
use Rattle.csp_scene.specs.Scene.{PlainApp, PlainNode, PlainLink}
use Rattle.csp_scene.specs.Links.{node_at}
use Rattle.csp_scene.specs.Sharing.{excludes}
use Rattle.csp_scene.specs.Naming.{is_called, is_link_called, router_named, is_name_taken, is_addr_taken}
use Rattle.csp_scene.specs.Arguments.{word_at, number_at, setting}
use Rattle.csp_scene.specs.Sketch.{PlainSketch, demand, and_then, with_node}

-- `until N`: once
abbrev pub state_until : PlainSketch → List (List ℕ) → Result PlainSketch SceneKind
state_until d args = demand (is_none d.until) kind.Twice (Ok (record d { until = Some (number_at args 0) }))

-- the node that a `node` line states
abbrev pub new_node : List Part → List (List ℕ) → PlainNode
new_node shape args = record {
  name = word_at args 0;
  addr = Some (number_at args 1);
  buffers = number_at args 3;
  seed = unwrap_or (setting keyword.Seed shape args) DEFAULT_SEED;
  inbox = unwrap_or (setting keyword.Inbox shape args) DEFAULT_INBOX;
  options = usual_options;
  routes = finite.empty;
  apps = [];
}

-- the bridge that a `bridge` line states
abbrev pub new_bridge : List Part → List (List ℕ) → PlainNode
new_bridge shape args = record {
  name = word_at args 0;
  addr = None;
  buffers = number_at args 2;
  seed = DEFAULT_SEED;
  inbox = unwrap_or (setting keyword.Inbox shape args) DEFAULT_INBOX;
  options = usual_options;
  routes = finite.empty;
  apps = [];
}

-- a node's name is that of no node, bridge or link, its address that of no node, and there is room for it
abbrev pub may_add_node : PlainSketch → List ℕ → Option ℕ → Result (Unit {0}) SceneKind
may_add_node d word addr =
    demand (not (is_name_taken word d.nodes d.links || is_addr_taken addr d.nodes)) kind.Twice
    (demand (nat_lt (length d.nodes) MAX_NODES) kind.Full
    (Ok tt))

-- `node NAME ADDR buffers N [seed S] [inbox C]`, and `bridge NAME buffers N [inbox C]`
abbrev pub state_node : PlainSketch → PlainNode → Result PlainSketch SceneKind
state_node d node = and_then (may_add_node d node.name node.addr) (λ _. Ok (with_node node d))

-- an application with no step yet
abbrev pub new_app : List ℕ → PlainApp
new_app word = record { name = word; steps = [] }

-- an application's name is that of no other application of its node and of no link, and there is room for it
abbrev pub may_add_app : List PlainApp → List PlainLink → List ℕ → Result (Unit {0}) SceneKind
may_add_app apps links word =
    demand (not (list_any (is_called word) apps || list_any (is_link_called word) links)) kind.Twice
    (demand (nat_lt (length apps) MAX_APPS) kind.Full
    (Ok tt))

-- a node with one more application, and a sketch in which the node in a place has it
abbrev pub with_app : PlainApp → PlainNode → PlainNode
with_app app node = record node { apps = node.apps ++ app ∷ [] }

-- with an application more of the node at a place, whose steps may follow
abbrev pub with_app_at : ℕ → PlainApp → PlainSketch → PlainSketch
with_app_at place app d = record d { nodes = slice_set d.nodes place (with_app app (node_at d.nodes place)); host = Some place }

-- `app NODE NAME`: the steps that follow are its
abbrev pub state_app_at : PlainSketch → List ℕ → Option ℕ → Result PlainSketch SceneKind
state_app_at d word None = Err kind.Unknown
state_app_at d word (Some place) = and_then (may_add_app (node_at d.nodes place).apps d.links word) (λ _. Ok (with_app_at place (new_app word) d))

-- what an `app` line adds
abbrev pub state_app : PlainSketch → List (List ℕ) → Result PlainSketch SceneKind
state_app d args = state_app_at d (word_at args 1) (router_named (word_at args 0) d.nodes)

-- the last application of a node
abbrev pub last_app : PlainNode → PlainApp
last_app node = slice_index_or node.apps (length node.apps - 1) (new_app [])

-- an application with one more step, a node whose last application has it, and a sketch in which the node in a place has it
abbrev pub with_step : PlainStep → PlainApp → PlainApp
with_step step app = record app { steps = app.steps ++ step ∷ [] }

-- a node with a step more of its last application
abbrev pub with_last_step : PlainStep → PlainNode → PlainNode
with_last_step step node = record node { apps = slice_set node.apps (length node.apps - 1) (with_step step (last_app node)) }

-- with a step more of the last application of the node at a place
abbrev pub with_step_at : ℕ → PlainStep → PlainSketch → PlainSketch
with_step_at place step d = record d { nodes = slice_set d.nodes place (with_last_step step (node_at d.nodes place)) }

-- a step never stands together with those before it that it excludes, and there is room for it
abbrev pub may_add_step : List PlainStep → PlainStep → Result (Unit {0}) SceneKind
may_add_step steps step =
    demand (not (list_any (excludes step) steps)) kind.Twice
    (demand (nat_lt (length steps) MAX_STEPS) kind.Full
    (Ok tt))

-- a step line: one more step of the application of the last `app` line
abbrev pub state_step_at : PlainSketch → PlainStep → Option ℕ → Result PlainSketch SceneKind
state_step_at d step None = Err kind.Place
state_step_at d step (Some place) = and_then (may_add_step (last_app (node_at d.nodes place)).steps step) (λ _. Ok (with_step_at place step d))

-- what a step line adds
abbrev pub state_step : PlainSketch → PlainStep → Result PlainSketch SceneKind
state_step d step = state_step_at d step d.host
