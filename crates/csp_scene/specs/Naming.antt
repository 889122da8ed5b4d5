-- Who has a name.
use Rattle.std.specs.Prelude.{ℕ, ◌≡◌, ◌==◌, Bool, false, ◌&&◌, ◌||◌, List, map, slice_get, Option, Some, None, is_some}
use Rattle.std.specs.List.{list_any, position}
use Rattle.std.specs.Str.{bytes_eq}
use Rattle.csp_log.specs.declared.who.Who.{Who}
use Rattle.csp_log.specs.declared.who.Who.TheVariants as who
use Rattle.csp_scene.specs.Scene.{PlainApp, PlainNode, PlainLink}
use Rattle.csp_scene.specs.Links.{links_at}

-- whether a node or bridge, a link, an application has this name
abbrev pub has_name : List ℕ → PlainNode → Bool
has_name word node = bytes_eq node.name word

-- a link has this name
abbrev pub is_link_called : List ℕ → PlainLink → Bool
is_link_called word link = bytes_eq link.name word

-- a hub has this name
abbrev pub is_hub_called : List ℕ → List PlainLink → Bool
is_hub_called word links = list_any (λ link. link.hub && is_link_called word link) links

-- an application has this name
abbrev pub is_called : List ℕ → PlainApp → Bool
is_called word app = bytes_eq app.name word

-- whether it is a node, not a bridge, and has this name
abbrev pub is_router : List ℕ → PlainNode → Bool
is_router word node = has_name word node && is_some node.addr

-- the router of a node, or the bridge itself, which has no address, by its place among the nodes
abbrev pub router_or_bridge : Option ℕ → ℕ → Who
router_or_bridge (Some addr) place = who.Router place
router_or_bridge None place = who.Bridge place

-- the place of the node or bridge of this name; that of the node, no bridge; that of the link; that of the application
abbrev pub node_named : List ℕ → List PlainNode → Option ℕ
node_named word nodes = position (has_name word) nodes

-- the place of the node, and not bridge, of this name
abbrev pub router_named : List ℕ → List PlainNode → Option ℕ
router_named word nodes = position (is_router word) nodes

-- the number of the link of this name
abbrev pub link_named : List ℕ → List PlainLink → Option ℕ
link_named word links = position (is_link_called word) links

-- the number of the application of this name
abbrev pub app_named : List ℕ → List PlainApp → Option ℕ
app_named word apps = position (is_called word) apps

-- the names of a node's links, in the order of its interfaces, and the interface on the link of this name
abbrev pub iface_names : ℕ → List PlainLink → List (List ℕ)
iface_names place links = map (λ link. link.name) (links_at place links)

-- the number of a node's interface on the link of this name
abbrev pub iface_named : List ℕ → ℕ → List PlainLink → Option ℕ
iface_named word place links = position (λ name. bytes_eq name word) (iface_names place links)

-- whether a node, a bridge or a link has this name
abbrev pub is_name_taken : List ℕ → List PlainNode → List PlainLink → Bool
is_name_taken word nodes links = list_any (has_name word) nodes || list_any (is_link_called word) links

-- whether this is an address, and that of some node
abbrev pub has_addr : ℕ → Option ℕ → Bool
has_addr addr None = false
has_addr addr (Some other) = other == addr

-- some node has this address
abbrev pub is_addr_taken : Option ℕ → List PlainNode → Bool
is_addr_taken None nodes = false
is_addr_taken (Some addr) nodes = list_any (λ node. has_addr addr node.addr) nodes

-- no two nodes have the same name
abbrev pub AreNamedApart : List PlainNode → Type 0
AreNamedApart nodes = (i j : ℕ) (n m : PlainNode) → slice_get nodes i ≡ Some n → slice_get nodes j ≡ Some m → n.name ≡ m.name → i ≡ j
