-- A party before it is opened.
use Rattle.std.specs.Prelude.{ℕ, ◌≡◌, ◌+◌, ◌<◌, ◌≤◌, ◌^◌, ⊤, Option, None, Some, IfSome, All, length}
use Rattle.csp_app.specs.Room.{IsStep}
use Rattle.csp_arena.specs.declared.token.RegionToken.{RegionToken}
use Rattle.csp_base.specs.declared.limits.TheConstants.{MAX_PAYLOAD}
use Rattle.csp_deck.specs.Regions.{nowhere}
use Rattle.csp_hub.specs.declared.hub.TheConstants.{MIN_ENDS, MAX_ENDS}
use Rattle.csp_link.specs.Fates.{IsFault}
use Rattle.csp_log.specs.declared.places.LinkKind.TheVariants as link
use Rattle.csp_log.specs.declared.places.TheConstants.{IFACES}
use Rattle.csp_party.specs.Any.{region_of}
use Rattle.csp_party.specs.declared.any.AnyParty.{AnyParty}
use Rattle.csp_log.specs.declared.who.Who.TheVariants as who
use Rattle.csp_scene.specs.Scene.{PlainLink}
use Rattle.csp_scene.specs.declared.limits.TheConstants.{DEFAULT_MTU}
use Rattle.csp_stack.specs.Config.{IsConfig}
use Rattle.csp_topology.specs.Parties.{PlainOpening, opens, router_for, bridge_at, iface_on, app_with, link_with, hub_with}
use Rattle.csp_topology.specs.declared.opening.Opening.{Opening}
use Rattle.csp_topology.specs.declared.opening.Opening.TheVariants as opening

-- who it is, and its state before its first turn
abbrev pub opening_of : Opening → PlainOpening
opening_of (opening.Router c) = opens (who.Router c.facts.node) (router_for c)
opening_of (opening.Bridge node) = bridge_at node
opening_of (opening.Iface node number kind mtu heeds) = iface_on node number kind mtu heeds
opening_of (opening.App node number script) = app_with node number script
opening_of (opening.Link number kind plan) = link_with number kind plan.items
opening_of (opening.Hub number ends plan) = hub_with number ends plan.items

-- the packets of a link fit the buffers of its nodes
abbrev pub FitsBuffers : PlainLink → Type 0
FitsBuffers l = l.mtu ≤ MAX_PAYLOAD

-- its numbers are those that such a party may have
abbrev pub CanOpen : Opening → Type 0
CanOpen (opening.Router c) = IsConfig c
CanOpen (opening.Bridge node) = ⊤
CanOpen (opening.Iface node number kind mtu heeds) = (number < IFACES) × (mtu ≤ MAX_PAYLOAD) × IfSome heeds (λ addr. (kind ≡ link.Can) × (mtu ≡ DEFAULT_MTU))
CanOpen (opening.App node number script) = (length script + 1 < 2 ^ 32) × All IsStep script
CanOpen (opening.Link number kind plan) = All IsFault plan.items
CanOpen (opening.Hub number ends plan) = (MIN_ENDS ≤ ends) × (ends ≤ MAX_ENDS) × All IsFault plan.items

-- the buffers of a party of a node are to be of this region, and a link or a hub has none
abbrev pub IsOfRegion : Option ℕ → Option RegionToken → AnyParty → Type 0
IsOfRegion (Some node) (Some region) p = region_of p ≡ region.name
IsOfRegion (Some node) None p = ⊤
IsOfRegion None region p = region_of p ≡ nowhere
