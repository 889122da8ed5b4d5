-- What a scene has under each name: the party that stands there.
use Rattle.std.proofs.Common.{◌≡◌, ℕ, suc, ◌+◌, Bool, true, false, Option, Some, None, List, [], ◌∷◌, length, slice_get, refl, ap, subst, arith}
use Rattle.std.specs.Prelude.{if◌then◌else◌}
use Rattle.std.specs.List.{AllByRecursion}
use Rattle.csp_app.specs.PlainApp as plain_app
use Rattle.csp_bridge.specs.PlainBridge as bridge
use Rattle.csp_hub.specs.PlainHub as plain_hub
use Rattle.csp_link.specs.PlainLink as plain_link
use Rattle.csp_party.specs.Any.{PlainParty, a_bridge, an_iface, an_app, a_link, a_hub}
use Rattle.csp_log.specs.declared.who.Who.{Who}
use Rattle.csp_log.specs.declared.who.Who.TheVariants as who
use Rattle.csp_scene.proofs.Public.{AllByRecursion-append}
use Rattle.csp_scene.specs.Links.{links_at}
use Rattle.csp_scene.specs.Scene.{PlainScene, PlainNode, PlainLink, PlainApp}
use Rattle.csp_topology.specs.Parties.{PlainOpening, parties_of, parties_from, parties_at, link_party, links_from, iface_opening, heeded, ifaces_from, apps_from, leader_opening, router_for, config_of}

-- the router of a node with an address
pub record IsRouterAt (nodes : List PlainNode) (links : List PlainLink) (place : ℕ) (p : PlainParty) : Type 0 where
  pub node : PlainNode
  pub addr : ℕ
  pub there : slice_get nodes place ≡ Some node
  pub called : node.addr ≡ Some addr
  pub party : p ≡ router_for (config_of place addr node (links_at place links))

-- the bridge in the place of one without
pub record IsBridgeAt (nodes : List PlainNode) (place : ℕ) (p : PlainParty) : Type 0 where
  pub node : PlainNode
  pub there : slice_get nodes place ≡ Some node
  pub bare : node.addr ≡ None
  pub party : p ≡ a_bridge bridge.opening

-- an interface of a node, on one of its links
pub record IsIfaceAt (nodes : List PlainNode) (links : List PlainLink) (place number : ℕ) (p : PlainParty) : Type 0 where
  pub node : PlainNode
  pub link : PlainLink
  pub there : slice_get nodes place ≡ Some node
  pub on : slice_get (links_at place links) number ≡ Some link
  pub party : p ≡ an_iface (iface_opening place number link.kind link.mtu (heeded node.addr link))

-- an application of a node
pub record IsAppAt (nodes : List PlainNode) (place number : ℕ) (p : PlainParty) : Type 0 where
  pub node : PlainNode
  pub app : PlainApp
  pub there : slice_get nodes place ≡ Some node
  pub of_it : slice_get node.apps number ≡ Some app
  pub party : p ≡ an_app (plain_app.opening number app.steps)

-- a link or a hub
pub record IsLinkAt (links : List PlainLink) (number : ℕ) (p : PlainParty) : Type 0 where
  pub link : PlainLink
  pub there : slice_get links number ≡ Some link
  pub party : p ≡ link_party link

-- which of the two it is
pub as_link : (l : PlainLink) → l.hub ≡ false → link_party l ≡ a_link (plain_link.opening l.kind l.plan)
as_link l is = ap (λ (b : Bool). if b then a_hub (plain_hub.opening (length l.ends) l.plan) else a_link (plain_link.opening l.kind l.plan)) is

pub as_hub : (l : PlainLink) → l.hub ≡ true → link_party l ≡ a_hub (plain_hub.opening (length l.ends) l.plan)
as_hub l is = ap (λ (b : Bool). if b then a_hub (plain_hub.opening (length l.ends) l.plan) else a_link (plain_link.opening l.kind l.plan)) is

-- a party that is what a scene has under this name
abbrev pub IsOwner : List PlainNode → List PlainLink → Who → PlainParty → Type 0
IsOwner nodes links (who.Router place) p = IsRouterAt nodes links place p
IsOwner nodes links (who.Bridge place) p = IsBridgeAt nodes place p
IsOwner nodes links (who.Iface place number) p = IsIfaceAt nodes links place number p
IsOwner nodes links (who.App place number) p = IsAppAt nodes place number p
IsOwner nodes links (who.Link number) p = IsLinkAt links number p

abbrev pub IsOf : PlainScene → PlainOpening → Type 0
IsOf scene o = IsOwner scene.nodes scene.links o.who o.party

-- what a list has from this place on
abbrev HasFrom : {X : Type 0} → List X → ℕ → List X → Type 0
HasFrom all n xs = (j : ℕ) → slice_get all (n + j) ≡ slice_get xs j

has_first : {X : Type 0} (all : List X) (n : ℕ) (x : X) (xs : List X) → HasFrom all n (x ∷ xs) → slice_get all n ≡ Some x
has_first all n x xs has =
    let here : n + 0 ≡ n = omega arith in
    subst (λ k. slice_get all k ≡ Some x) here (has 0)

has_rest : {X : Type 0} (all : List X) (n : ℕ) (x : X) (xs : List X) → HasFrom all n (x ∷ xs) → HasFrom all (n + 1) xs
has_rest all n x xs has j =
    let there : n + suc j ≡ n + 1 + j = omega arith in
    subst (λ k. slice_get all k ≡ slice_get xs j) there (has (suc j))

has_all : {X : Type 0} (xs : List X) → HasFrom xs 0 xs
has_all xs j =
    let there : j ≡ 0 + j = omega arith in
    subst (λ k. slice_get xs k ≡ slice_get xs j) there refl

links_own : (nodes : List PlainNode) (links rest : List PlainLink) (n : ℕ) → HasFrom links n rest → AllByRecursion (λ o. IsOwner nodes links o.who o.party) (links_from n rest)
links_own nodes links [] n has = tt
links_own nodes links (l ∷ rest) n has = (record { link = l; there = has_first links n l rest has; party = refl }, links_own nodes links rest (n + 1) (has_rest links n l rest has))

ifaces_own : (nodes : List PlainNode) (links : List PlainLink) (place : ℕ) (node : PlainNode) → slice_get nodes place ≡ Some node
    → (rest : List PlainLink) (n : ℕ) → HasFrom (links_at place links) n rest → AllByRecursion (λ o. IsOwner nodes links o.who o.party) (ifaces_from place node.addr n rest)
ifaces_own nodes links place node there [] n has = tt
ifaces_own nodes links place node there (l ∷ rest) n has =
    (record { node = node; link = l; there = there; on = has_first (links_at place links) n l rest has; party = refl }, ifaces_own nodes links place node there rest (n + 1) (has_rest (links_at place links) n l rest has))

apps_own : (nodes : List PlainNode) (links : List PlainLink) (place : ℕ) (node : PlainNode) → slice_get nodes place ≡ Some node
    → (rest : List PlainApp) (n : ℕ) → HasFrom node.apps n rest → AllByRecursion (λ o. IsOwner nodes links o.who o.party) (apps_from place n rest)
apps_own nodes links place node there [] n has = tt
apps_own nodes links place node there (a ∷ rest) n has =
    (record { node = node; app = a; there = there; of_it = has_first node.apps n a rest has; party = refl }, apps_own nodes links place node there rest (n + 1) (has_rest node.apps n a rest has))

hub_own : (nodes : List PlainNode) (links : List PlainLink) (place : ℕ) (node : PlainNode) → slice_get nodes place ≡ Some node → (addr : Option ℕ) → node.addr ≡ addr
    → IsOwner nodes links (leader_opening addr place node (links_at place links)).who (leader_opening addr place node (links_at place links)).party
hub_own nodes links place node there None called = record { node = node; there = there; bare = called; party = refl }
hub_own nodes links place node there (Some addr) called = record { node = node; addr = addr; there = there; called = called; party = refl }

node_own : (nodes : List PlainNode) (links : List PlainLink) (place : ℕ) (node : PlainNode) → slice_get nodes place ≡ Some node → AllByRecursion (λ o. IsOwner nodes links o.who o.party) (parties_at place node (links_at place links))
node_own nodes links place node there = (
  hub_own nodes links place node there node.addr refl,
  AllByRecursion-append (λ (o : PlainOpening). IsOwner nodes links o.who o.party) (ifaces_from place node.addr 0 (links_at place links)) (apps_from place 0 node.apps)
      (ifaces_own nodes links place node there (links_at place links) 0 (has_all (links_at place links)))
      (apps_own nodes links place node there node.apps 0 (has_all node.apps)),
)

nodes_own : (nodes : List PlainNode) (links : List PlainLink) (rest : List PlainNode) (n : ℕ) → HasFrom nodes n rest → AllByRecursion (λ o. IsOwner nodes links o.who o.party) (parties_from n rest links)
nodes_own nodes links [] n has = tt
nodes_own nodes links (node ∷ rest) n has =
    AllByRecursion-append (λ (o : PlainOpening). IsOwner nodes links o.who o.party) (parties_at n node (links_at n links)) (parties_from (n + 1) rest links)
    (node_own nodes links n node (has_first nodes n node rest has)) (nodes_own nodes links rest (n + 1) (has_rest nodes n node rest has))

-- each party of a scene is what it has under the party's name
pub are_owners : (scene : PlainScene) → AllByRecursion (IsOf scene) (parties_of scene)
unfolding parties_of
are_owners scene =
    AllByRecursion-append (IsOf scene) (parties_from 0 scene.nodes scene.links) (links_from 0 scene.links)
    (nodes_own scene.nodes scene.links scene.nodes 0 (has_all scene.nodes)) (links_own scene.nodes scene.links scene.links 0 (has_all scene.links))
