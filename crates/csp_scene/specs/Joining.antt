-- What `link` and `route` lines state.
use Rattle.std.specs.Prelude.{ℕ, ◌==◌, Bool, true, false, not, ◌&&◌, ◌||◌, nat_lt, nat_le, List, [], ◌∷◌, length, map, drop, slice_set, Option, Some, None, is_some, Result, Ok, Err, if◌then◌else◌}
use Rattle.std.specs.List.{list_any, list_all}
use Rattle.std.specs.Option.{unwrap_or, option_map}
use Rattle.std.specs.FinMap as finite
use Rattle.csp_log.specs.declared.places.LinkKind.{LinkKind}
use Rattle.csp_log.specs.declared.places.LinkKind.TheVariants as carried
use Rattle.csp_route.specs.Routes.{Routes, merged}
use Rattle.csp_route.specs.Text.{parsed}
use Rattle.csp_route.specs.declared.error.RouteError.{RouteError}
use Rattle.csp_route.specs.declared.error.RouteKind.{RouteKind}
use Rattle.csp_route.specs.declared.error.RouteKind.TheVariants as fault
use Rattle.csp_route.specs.declared.table.TheConstants.{MAX_ROWS}
use Rattle.csp_scene.specs.declared.limits.TheConstants.{MAX_LINKS, BRIDGE_LINKS, DEFAULT_MTU}
use Rattle.csp_scene.specs.declared.refusal.SceneKind.{SceneKind}
use Rattle.csp_scene.specs.declared.refusal.SceneKind.TheVariants as kind
use Rattle.csp_log.specs.declared.places.End.{End}
use Rattle.csp_scene.specs.declared.table.Keyword.TheVariants as keyword
use Rattle.csp_scene.specs.declared.table.Part.{Part}
use Rattle.csp_scene.specs.Scene.{PlainNode, PlainLink}
use Rattle.csp_scene.specs.Links.{links_at, node_at}
use Rattle.csp_scene.specs.Naming.{is_called, node_named, router_named, iface_names, is_name_taken}
use Rattle.csp_scene.specs.Arguments.{word_at, has_keyword, setting, text_from}
use Rattle.csp_scene.specs.Sketch.{PlainSketch, demand, and_then, with_link}

-- a KISS link whose line has the word `header` covers the header by its CRC
abbrev pub kiss_kind : List Part → LinkKind
kiss_kind shape = if has_keyword keyword.Header shape then carried.KissHeader else carried.Kiss

-- the most bytes of a payload on a link: those that its line gives
abbrev pub mtu_of : List Part → List (List ℕ) → ℕ
mtu_of shape args = unwrap_or (setting keyword.Mtu shape args) DEFAULT_MTU

-- the end of a new link at a node: at the interface after those that the node has
abbrev pub end_at : List PlainLink → ℕ → End
end_at links place = record { node = place; iface = length (links_at place links) }

-- the link of this name and kind, or the hub, between the nodes in these places
abbrev pub new_link : List PlainLink → List ℕ → LinkKind → (hub : Bool) → (mtu : ℕ) → (places : List ℕ) → PlainLink
new_link links word kind hub mtu places = record { name = word; kind = kind; hub = hub; mtu = mtu; ends = map (end_at links) places; plan = [] }

-- an application of this node has this name
abbrev pub has_app : List ℕ → PlainNode → Bool
has_app word node = list_any (is_called word) node.apps

-- a node takes any link, a bridge two
abbrev pub takes_link : PlainSketch → ℕ → Bool
takes_link d place = is_some (node_at d.nodes place).addr || nat_lt (length (links_at place d.links)) BRIDGE_LINKS

-- one of these stands twice
abbrev pub has_twice : List ℕ → Bool
has_twice [] = false
has_twice (place ∷ places) = list_any (λ other. other == place) places || has_twice places

-- a name is taken for a link of the nodes in these places
abbrev pub is_link_taken : PlainSketch → List ℕ → (places : List ℕ) → Bool
is_link_taken d word places = is_name_taken word d.nodes d.links || list_any (λ place. has_app word (node_at d.nodes place)) places

-- a link joins different nodes, has a name of its own, and there is room for it in the scene and at each node
abbrev pub may_add_link : PlainSketch → List ℕ → (places : List ℕ) → Result (Unit {0}) SceneKind
may_add_link d word places =
    demand (not (has_twice places || is_link_taken d word places)) kind.Twice
    (demand (nat_lt (length d.links) MAX_LINKS && list_all (takes_link d) places) kind.Full
    (Ok tt))

-- the places that words name, where each names one
abbrev pub all_named : List (Option ℕ) → Option (List ℕ)
all_named [] = Some []
all_named (None ∷ more) = None
all_named (Some place ∷ more) = option_map (λ places. place ∷ places) (all_named more)

-- a link or a hub between the nodes in these places, which must all be there
abbrev pub state_between : PlainSketch → List ℕ → LinkKind → (hub : Bool) → (mtu : ℕ) → (places : Option (List ℕ)) → Result PlainSketch SceneKind
state_between d word carries hub mtu None = Err kind.Unknown
state_between d word carries hub mtu (Some places) = and_then (may_add_link d word places) (λ _. Ok (with_link (new_link d.links word carries hub mtu places) d))

-- `link NAME kiss NODE NODE [header] [mtu M]`, `link NAME can NODE NODE [mtu M]`: nodes or bridges
abbrev pub state_link : PlainSketch → LinkKind → ℕ → List (List ℕ) → Result PlainSketch SceneKind
state_link d carries mtu args =
    state_between d (word_at args 0) carries false mtu (all_named (node_named (word_at args 2) d.nodes ∷ node_named (word_at args 3) d.nodes ∷ []))

-- `hub NAME NODE NODE ..`: a CAN bus of nodes, and no bridge
abbrev pub state_hub : PlainSketch → List (List ℕ) → Result PlainSketch SceneKind
state_hub d args = state_between d (word_at args 0) carried.Can true DEFAULT_MTU (all_named (map (λ word. router_named word d.nodes) (drop 1 args)))

-- the kind of a line whose text of routes has this error
abbrev pub kind_of : RouteKind → SceneKind
kind_of fault.Syntax = kind.Number
kind_of fault.Range = kind.Number
kind_of fault.NoInterface = kind.Unknown
kind_of fault.Full = kind.Full

-- the interfaces that a line may route to: those of its node by then, and none where no `node` line declares it
abbrev pub known_ifaces : PlainSketch → Option ℕ → List (List ℕ)
known_ifaces d None = []
known_ifaces d (Some place) = iface_names place d.links

-- a sketch in which the node in a place has this table
abbrev pub with_routes : ℕ → Routes → PlainSketch → PlainSketch
with_routes place routes d = record d { nodes = slice_set d.nodes place (record (node_at d.nodes place) { routes = routes }) }

-- the rows of a text join those of the node, which must be there
abbrev pub add_routes : PlainSketch → Option ℕ → Routes → Result PlainSketch SceneKind
add_routes d None more = Err kind.Unknown
add_routes d (Some place) more =
    let routes = merged (node_at d.nodes place).routes more in
    demand (nat_le (finite.len routes) MAX_ROWS) kind.Full
    (Ok (with_routes place routes d))

-- what is done with the one answer that a text of routes has
abbrev pub routed : PlainSketch → Option ℕ → Result Routes RouteError → Result PlainSketch SceneKind
routed d place (Ok more) = add_routes d place more
routed d place (Err error) = Err (kind_of error.kind)

-- `route NODE TEXT`
abbrev pub state_route_at : PlainSketch → List ℕ → Option ℕ → Result PlainSketch SceneKind
state_route_at d text place = routed d place (parsed (known_ifaces d place) text)

-- what a `route` line adds
abbrev pub state_route : PlainSketch → List (List ℕ) → Result PlainSketch SceneKind
state_route d args = state_route_at d (text_from args 1) (router_named (word_at args 0) d.nodes)
