-- The parties of a scene before their first turns, in the order of their logs.
use Rattle.std.specs.Prelude.{ℕ, ◌+◌, if◌then◌else◌, Option, None, Some, List, [], ◌∷◌, ◌++◌, length, map}
use Rattle.csp_app.specs.PlainApp as app
use Rattle.csp_app.specs.PlainStep.{PlainStep}
use Rattle.csp_bridge.specs.PlainBridge as bridge
use Rattle.csp_deck.specs.Runs.{Steps}
use Rattle.csp_hub.specs.PlainHub as hub
use Rattle.csp_iface.specs.PlainIface as iface
use Rattle.csp_iface.specs.PlainIface.{PlainIface}
use Rattle.csp_link.specs.PlainLink as link
use Rattle.csp_link.specs.declared.fault.Fault.{Fault}
use Rattle.csp_log.specs.declared.places.LinkKind.{LinkKind}
use Rattle.csp_party.specs.Any.{PlainParty, a_router, a_bridge, an_iface, an_app, a_link, a_hub, has_ended, asks, asked, tells, events}
use Rattle.csp_log.specs.declared.who.Who.{Who}
use Rattle.csp_log.specs.declared.who.Who.TheVariants as who
use Rattle.csp_scene.specs.Links.{links_at}
use Rattle.csp_scene.specs.Scene.{PlainScene, PlainNode, PlainLink, PlainApp}
use Rattle.csp_stack.specs.Config.{PlainConfig, opening_state}

-- a party's step, whatever party it is
abbrev pub party_steps : Steps PlainParty
party_steps = record { has_ended = has_ended; asks = asks; asked = asked; tells = tells; events = events }

-- a party before its first turn
pub record PlainOpening : Type 0 where
  pub who : Who
  pub party : PlainParty

-- a party as it opens, with who it is
abbrev pub opens : Who → PlainParty → PlainOpening
opens w p = record { who = w; party = p }

-- what the router of the node at this place is given, with its address and the links that it is on
abbrev pub config_of : ℕ → ℕ → PlainNode → List PlainLink → PlainConfig
config_of place addr n links = record {
  facts = record { node = place; addr = addr; name = n.name; seed = n.seed; options = n.options; apps = length n.apps; ifaces = map (λ l. l.name) links };
  routes = n.routes;
}

-- the router of a configuration, as it opens
abbrev pub router_for : PlainConfig → PlainParty
router_for c = a_router (record { facts = c.facts; state = opening_state c.facts.apps c.routes })

-- the bridge at this place before its first turn
abbrev pub bridge_at : ℕ → PlainOpening
bridge_at place = opens (who.Bridge place) (a_bridge bridge.opening)

-- the router of a node, or the bridge that stands in its place: a bridge has no address
abbrev pub leader_opening : Option ℕ → ℕ → PlainNode → List PlainLink → PlainOpening
leader_opening (Some addr) place n links = opens (who.Router place) (router_for (config_of place addr n links))
leader_opening None place n links = bridge_at place

-- an interface of this number of a node at its opening, on a link of this kind whose packets have payloads of at most so many bytes; on a hub it
-- heeds its node's address
abbrev pub iface_opening : (place number : ℕ) → LinkKind → (mtu : ℕ) → (heeds : Option ℕ) → PlainIface
iface_opening place number kind mtu heeds = record (iface.opening place number kind mtu) { heeds = heeds }

-- the same as a party
abbrev pub iface_on : (place number : ℕ) → LinkKind → (mtu : ℕ) → (heeds : Option ℕ) → PlainOpening
iface_on place number kind mtu heeds = opens (who.Iface place number) (an_iface (iface_opening place number kind mtu heeds))

-- what an interface of a node with this address heeds on a link: the address where that is a hub, and elsewhere nothing
abbrev pub heeded : (addr : Option ℕ) → PlainLink → Option ℕ
heeded addr l = if l.hub then addr else None

-- the interfaces of a node with this address on these links, from this number on
abbrev pub ifaces_from : ℕ → (addr : Option ℕ) → ℕ → List PlainLink → List PlainOpening
ifaces_from place addr number [] = []
ifaces_from place addr number (l ∷ links) = iface_on place number l.kind l.mtu (heeded addr l) ∷ ifaces_from place addr (number + 1) links

-- the applications of a node, from this number on
abbrev pub app_with : ℕ → ℕ → List PlainStep → PlainOpening
app_with place number steps = opens (who.App place number) (an_app (app.opening number steps))

-- an application of a node before its first turn, with its steps
abbrev pub app_at : ℕ → ℕ → PlainApp → PlainOpening
app_at place number a = app_with place number a.steps

-- a node's applications, from this number on
abbrev pub apps_from : ℕ → ℕ → List PlainApp → List PlainOpening
apps_from place number [] = []
apps_from place number (a ∷ apps) = app_at place number a ∷ apps_from place (number + 1) apps

-- the parties of a node on these links: its router or bridge, its interfaces in the order of the links, its applications
abbrev pub parties_at : ℕ → PlainNode → List PlainLink → List PlainOpening
parties_at place n links = leader_opening n.addr place n links ∷ (ifaces_from place n.addr 0 links ++ apps_from place 0 n.apps)

-- the parties of these nodes, from this place on
abbrev pub parties_from : ℕ → List PlainNode → List PlainLink → List PlainOpening
parties_from place [] links = []
parties_from place (n ∷ nodes) links = parties_at place n (links_at place links) ++ parties_from (place + 1) nodes links

-- a link of this number, before its first turn
abbrev pub link_with : ℕ → LinkKind → List Fault → PlainOpening
link_with number kind plan = opens (who.Link number) (a_link (link.opening kind plan))

-- a hub with so many ends: it has its place among the links
abbrev pub hub_with : ℕ → (ends : ℕ) → List Fault → PlainOpening
hub_with number ends plan = opens (who.Link number) (a_hub (hub.opening ends plan))

-- what a link of the scene opens as: a link of two ends, or a hub
abbrev pub link_party : PlainLink → PlainParty
link_party l = if l.hub then a_hub (hub.opening (length l.ends) l.plan) else a_link (link.opening l.kind l.plan)

-- a link of the scene before its first turn
abbrev pub link_at : ℕ → PlainLink → PlainOpening
link_at number l = opens (who.Link number) (link_party l)

-- the links as parties, from this number on
abbrev pub links_from : ℕ → List PlainLink → List PlainOpening
links_from number [] = []
links_from number (l ∷ links) = link_at number l ∷ links_from (number + 1) links

-- all: those of each node in order, then the links
unfoldable pub parties_of : PlainScene → List PlainOpening
parties_of scene = parties_from 0 scene.nodes scene.links ++ links_from 0 scene.links
