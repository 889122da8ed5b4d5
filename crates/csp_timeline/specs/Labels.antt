-- The names of nodes, interfaces, applications and links.
use Rattle.std.specs.Prelude.{ℕ, ◌==◌, if◌then◌else◌, List, ◌∷◌, ◌++◌, codes, slice_get}
use Rattle.std.specs.Option.{option_map_or, option_and_then}
use Rattle.csp_log.specs.declared.who.Who.{Who}
use Rattle.csp_log.specs.declared.who.Who.TheVariants as who
use Rattle.csp_scene.specs.Links.{links_at}
use Rattle.csp_scene.specs.Scene.{PlainLink, PlainNode, PlainScene}

-- the name of what isn't there
abbrev pub nameless : List ℕ
nameless = codes "-"

-- the name of the node in a place
abbrev pub node_name : PlainScene → ℕ → List ℕ
node_name scene node = option_map_or (λ n. n.name) (slice_get scene.nodes node) nameless

-- the name of the link of an interface
abbrev pub iface_name : PlainScene → (node number : ℕ) → List ℕ
iface_name scene node number = option_map_or (λ l. l.name) (slice_get (links_at node scene.links) number) nameless

-- the name of an application
abbrev pub app_name : PlainScene → (node number : ℕ) → List ℕ
app_name scene node number = option_map_or (λ a. a.name) (option_and_then (λ n. slice_get n.apps number) (slice_get scene.nodes node)) nameless

-- the name of the link in a place
abbrev pub link_name : PlainScene → ℕ → List ℕ
link_name scene place = option_map_or (λ l. l.name) (slice_get scene.links place) nameless

-- the name of the node at an end of a link
abbrev pub end_name : List PlainNode → PlainLink → (end : ℕ) → List ℕ
end_name nodes link end = option_map_or (λ n. n.name) (option_and_then (λ e. slice_get nodes e.node) (slice_get link.ends end)) nameless

-- the frames that come from this end: of a link with two ends their direction, `ab` from the first to the second, or `ba` back; of a hub the name of
-- the node at the end
abbrev pub from_word : List PlainNode → PlainLink → (end : ℕ) → List ℕ
from_word nodes link end = if link.hub then end_name nodes link end else if end == 0 then codes "ab" else codes "ba"

-- those that go to this end: of a link their direction, which comes from its other end; of a hub the name of the node at the end
abbrev pub to_word : List PlainNode → PlainLink → (end : ℕ) → List ℕ
to_word nodes link end = if link.hub then end_name nodes link end else if end == 0 then codes "ba" else codes "ab"

-- the same of the link in a place
abbrev pub from_end : PlainScene → (place end : ℕ) → List ℕ
from_end scene place end = option_map_or (λ l. from_word scene.nodes l end) (slice_get scene.links place) nameless

-- the word for the end of a link to which a frame goes
abbrev pub to_end : PlainScene → (place end : ℕ) → List ℕ
to_end scene place end = option_map_or (λ l. to_word scene.nodes l end) (slice_get scene.links place) nameless

-- an interface, as `NODE/LINK`
abbrev pub iface_label : PlainScene → (node number : ℕ) → List ℕ
iface_label scene node number = node_name scene node ++ 47 ∷ iface_name scene node number

-- an application, as `NODE.APP`
abbrev pub app_label : PlainScene → (node number : ℕ) → List ℕ
app_label scene node number = node_name scene node ++ 46 ∷ app_name scene node number

-- a party: a router or bridge by its node's name, a link by its own
abbrev pub label : PlainScene → Who → List ℕ
label scene (who.Router node) = node_name scene node
label scene (who.Bridge node) = node_name scene node
label scene (who.Iface node number) = iface_label scene node number
label scene (who.App node number) = app_label scene node number
label scene (who.Link place) = link_name scene place

-- the place of a party's node among the nodes, and of a link its own among the links
abbrev pub place_of : Who → ℕ
place_of (who.Router node) = node
place_of (who.Bridge node) = node
place_of (who.Iface node number) = node
place_of (who.App node number) = node
place_of (who.Link place) = place
