-- A router, a bridge, an interface, an application and a link at their opening are new over the lists of their nodes.
use Rattle.std.proofs.Common.{◌≡◌, ℕ, suc, ◌+◌, ◌<◌, ◌≤◌, Bool, true, false, ◌==◌, cond, nat_lt, List, [], ◌∷◌, ◌++◌, Option, Some, None, length, map, option_map, refl, ap, ◌∙◌, arith, slice_get, if◌then◌else◌}
use Rattle.std.specs.List.{AllByRecursion}
use Rattle.std.specs.Option.{option_and_then}
use Rattle.std.proofs.lemmas.Bool.{eqb-true, ltb-true}
use Rattle.std.proofs.lemmas.List.{length-map}
use Rattle.std.proofs.lemmas.Option.{same_Some, slice_get-map, slice_get_within}
use Rattle.csp_app.specs.PlainApp as app
use Rattle.csp_app.specs.PlainStep.{PlainStep}
use Rattle.csp_bridge.specs.PlainBridge as bridge
use Rattle.csp_hub.proofs.Public.{count_opening}
use Rattle.csp_hub.specs.PlainHub as hub
use Rattle.csp_link.specs.PlainLink as link
use Rattle.csp_log.specs.Kinds.{carried_on}
use Rattle.csp_lists.specs.PlainDeck.{PlainDeck, rule_of}
use Rattle.csp_log.specs.declared.places.Carries.TheVariants as lane
use Rattle.csp_log.specs.declared.places.End.{End}
use Rattle.csp_log.specs.declared.places.LinkKind.{LinkKind}
use Rattle.csp_log.specs.declared.places.QueueId.{QueueId}
use Rattle.csp_log.specs.declared.places.QueueId.TheVariants as queue
use Rattle.csp_log.specs.declared.places.Rule.{Rule}
use Rattle.csp_log.specs.declared.places.Rule.TheVariants as rule
use Rattle.csp_nodes.specs.Serving.{at_end, of_frames, rule_there}
use Rattle.csp_party.specs.Any.{uses, PlainParty, a_bridge, a_hub, a_link, an_iface, an_app}
use Rattle.csp_log.specs.declared.who.Who.TheVariants as who
use Rattle.csp_scene.proofs.Public.{AllByRecursion-append}
use Rattle.csp_scene.specs.Links.{links_at}
use Rattle.csp_scene.specs.Ranges.{IsScene}
use Rattle.csp_scene.specs.Scene.{PlainApp, PlainNode, PlainLink, PlainScene}
use Rattle.csp_scene.specs.declared.limits.TheConstants.{BRIDGE_LINKS}
use Rattle.csp_topology.specs.Parties.{PlainOpening, app_with, apps_from, bridge_at, config_of, heeded, leader_opening, iface_on, iface_opening, ifaces_from, link_at, links_from, opens, parties_at, parties_from, parties_of, router_for}
use Rattle.csp_topology.specs.Plan.{plans_from}
use Rattle.csp_world.proofs.OpeningRules.{Stands, up_rule, down_rule, out_rule, tx_rule, rx_rule}
use Rattle.csp_world.proofs.OpeningScene.{all_join, deck_there}
use Rattle.csp_world.specs.Inside.{IsNew}
use Rattle.csp_world.specs.Opening.{CanJoin, deck_of, opened_deck}
use Rattle.csp_world.specs.World.{PlainWorld}

-- the lists of a node have the queues that a party uses
abbrev AreThere : PlainNode → List PlainLink → PlainParty → Type 0
AreThere n links p = (q : QueueId) (r : Rule) → uses p q ≡ Some r → rule_of (opened_deck n links) q ≡ Some r

-- a lane for each of so many
counted_lane : (l r : Rule) (here : Option Rule) (count k : ℕ) (within : Bool) → (k < count → here ≡ Some l) → nat_lt k count ≡ within → cond within (Some l) None ≡ Some r → here ≡ Some r
counted_lane l r here count k true there h e = there (ltb-true k count h) ∙ e
counted_lane l r here count k false there h e = absurd cc

-- a lane of this number alone
own_lane : (l r : Rule) (at : Option Rule) (number k : ℕ) (here : Bool) → (k ≡ number → at ≡ Some l) → (k == number) ≡ here → (if here then Some l else None) ≡ Some r → at ≡ Some r
own_lane l r at number k true there h e = there (eqb-true k number h) ∙ e
own_lane l r at number k false there h e = absurd cc

-- those of the router
router_there : Stands → (place addr : ℕ) (n : PlainNode) (links : List PlainLink) → AreThere n links (router_for (config_of place addr n links))
router_there stands place addr n links queue.Inbox r e = e
router_there stands place addr n links (queue.Up k) r e = counted_lane (rule.Lane lane.Up) r (rule_of (opened_deck n links) (queue.Up k)) (length n.apps) k _ (up_rule stands n links k) refl e
router_there stands place addr n links (queue.Down k) r e = counted_lane (rule.Lane lane.Down) r (rule_of (opened_deck n links) (queue.Down k)) (length n.apps) k _ (down_rule stands n links k) refl e
router_there stands place addr n links (queue.Out k) r e =
    counted_lane (rule.Lane lane.Out) r (rule_of (opened_deck n links) (queue.Out k)) (length (map (λ (l : PlainLink). l.name) links)) k _
    (λ low. out_rule stands n links k (rw (← length-map links (λ (l : PlainLink). l.name)) low)) refl e
router_there stands place addr n links (queue.Tx k) r e = absurd cc
router_there stands place addr n links (queue.Rx k) r e = absurd cc

-- of the bridge between two links
bridge_there : Stands → (n : PlainNode) (links : List PlainLink) → length links ≡ BRIDGE_LINKS → AreThere n links (a_bridge bridge.opening)
bridge_there stands n links two queue.Inbox r e = e
bridge_there stands n links two (queue.Out k) r e = counted_lane (rule.Lane lane.Out) r (rule_of (opened_deck n links) (queue.Out k)) BRIDGE_LINKS k _ (λ low. out_rule stands n links k (omega (arith, low, two))) refl e
bridge_there stands n links two (queue.Up k) r e = absurd cc
bridge_there stands n links two (queue.Down k) r e = absurd cc
bridge_there stands n links two (queue.Tx k) r e = absurd cc
bridge_there stands n links two (queue.Rx k) r e = absurd cc

-- of an interface on one of its links
iface_there : Stands → (place number : ℕ) (kind : LinkKind) (mtu : ℕ) (heeds : Option ℕ) (n : PlainNode) (links : List PlainLink) (l : PlainLink) → slice_get links number ≡ Some l → l.kind ≡ kind → AreThere n links (an_iface (iface_opening place number kind mtu heeds))
iface_there stands place number kind mtu heeds n links l at same_kind queue.Inbox r e = e
iface_there stands place number kind mtu heeds n links l at same_kind (queue.Out k) r e =
    own_lane (rule.Lane lane.Out) r (rule_of (opened_deck n links) (queue.Out k)) number k _ (λ same. out_rule stands n links k (omega (arith, slice_get_within links number l at, same))) refl e
iface_there stands place number kind mtu heeds n links l at same_kind (queue.Tx k) r e =
    own_lane (rule.Lane (carried_on kind)) r (rule_of (opened_deck n links) (queue.Tx k)) number k _
    (λ same. tx_rule stands n links k l (ap (slice_get links) same ∙ at) ∙ ap (λ c. Some (rule.Lane c)) (ap carried_on same_kind)) refl e
iface_there stands place number kind mtu heeds n links l at same_kind (queue.Rx k) r e =
    own_lane (rule.Lane (carried_on kind)) r (rule_of (opened_deck n links) (queue.Rx k)) number k _
    (λ same. rx_rule stands n links k l (ap (slice_get links) same ∙ at) ∙ ap (λ c. Some (rule.Lane c)) (ap carried_on same_kind)) refl e
iface_there stands place number kind mtu heeds n links l at same_kind (queue.Up k) r e = absurd cc
iface_there stands place number kind mtu heeds n links l at same_kind (queue.Down k) r e = absurd cc

-- of an application
app_there : Stands → (number : ℕ) (steps : List PlainStep) (n : PlainNode) (links : List PlainLink) → number < length n.apps → AreThere n links (an_app (app.opening number steps))
app_there stands number steps n links few queue.Inbox r e = absurd cc
app_there stands number steps n links few (queue.Up k) r e =
    own_lane (rule.Lane lane.Up) r (rule_of (opened_deck n links) (queue.Up k)) number k _ (λ same. up_rule stands n links k (omega (arith, few, same))) refl e
app_there stands number steps n links few (queue.Down k) r e =
    own_lane (rule.Lane lane.Down) r (rule_of (opened_deck n links) (queue.Down k)) number k _ (λ same. down_rule stands n links k (omega (arith, few, same))) refl e
app_there stands number steps n links few (queue.Out k) r e = absurd cc
app_there stands number steps n links few (queue.Tx k) r e = absurd cc
app_there stands number steps n links few (queue.Rx k) r e = absurd cc

-- the lists of the node at a place have what they have
there_at : (decks : List PlainDeck) (place : ℕ) (n : PlainNode) (links : List PlainLink) (q : QueueId) (r : Rule) → slice_get decks place ≡ Some (opened_deck n links) → rule_of (opened_deck n links) q ≡ Some r
    → rule_there decks (Some (place, q)) ≡ Some r
there_at decks place n links q r at e = ap (option_and_then (λ (d : PlainDeck). rule_of d q)) at ∙ e

-- and its place is one of theirs
within_at : (decks : List PlainDeck) (place : ℕ) (d : PlainDeck) → slice_get decks place ≡ Some d → (node : ℕ) → Some place ≡ Some node → node < length decks
within_at decks place d at node e = omega (arith, slice_get_within decks place d at, same_Some place node e)

-- so each of them is new there
router_new : Stands → (w : PlainWorld) (place addr : ℕ) (n : PlainNode) (links : List PlainLink) → slice_get w.decks place ≡ Some (opened_deck n links) → IsNew w.decks w.links (opens (who.Router place) (router_for (config_of place addr n links)))
router_new stands w place addr n links at = record {
  ready = λ later until goes. tt;
  counted = refl;
  served = λ q s u. there_at w.decks place n links q s at (router_there stands place addr n links q s u);
  called = tt;
  holds = refl;
  home = λ node e. within_at w.decks place (opened_deck n links) at node e;
}

bridge_new : Stands → (w : PlainWorld) (place : ℕ) (n : PlainNode) (links : List PlainLink) → slice_get w.decks place ≡ Some (opened_deck n links) → length links ≡ BRIDGE_LINKS → IsNew w.decks w.links (bridge_at place)
bridge_new stands w place n links at two = record {
  ready = λ later until goes. tt;
  counted = refl;
  served = λ q s u. there_at w.decks place n links q s at (bridge_there stands n links two q s u);
  called = tt;
  holds = refl;
  home = λ node e. within_at w.decks place (opened_deck n links) at node e;
}

hub_new : Stands → (w : PlainWorld) (addr : Option ℕ) (place : ℕ) (n : PlainNode) (links : List PlainLink) → slice_get w.decks place ≡ Some (opened_deck n links) → (addr ≡ None → length links ≡ BRIDGE_LINKS) → IsNew w.decks w.links (leader_opening addr place n links)
hub_new stands w (Some addr) place n links at two = router_new stands w place addr n links at
hub_new stands w None place n links at two = bridge_new stands w place n links at (two refl)

iface_new : Stands → (w : PlainWorld) (place number : ℕ) (heeds : Option ℕ) (n : PlainNode) (links : List PlainLink) (l : PlainLink) → slice_get w.decks place ≡ Some (opened_deck n links) → slice_get links number ≡ Some l → IsNew w.decks w.links (iface_on place number l.kind l.mtu heeds)
iface_new stands w place number heeds n links l at on = record {
  ready = λ later until goes. refl;
  counted = refl;
  served = λ q s u. there_at w.decks place n links q s at (iface_there stands place number l.kind l.mtu heeds n links l on refl q s u);
  called = tt;
  holds = refl;
  home = λ node e. within_at w.decks place (opened_deck n links) at node e;
}

app_new : Stands → (w : PlainWorld) (place number : ℕ) (steps : List PlainStep) (n : PlainNode) (links : List PlainLink) → slice_get w.decks place ≡ Some (opened_deck n links) → number < length n.apps → IsNew w.decks w.links (app_with place number steps)
app_new stands w place number steps n links at few = record {
  ready = λ later until goes. tt;
  counted = refl;
  served = λ q s u. there_at w.decks place n links q s at (app_there stands number steps n links few q s u);
  called = tt;
  holds = refl;
  home = λ node e. within_at w.decks place (opened_deck n links) at node e;
}

-- a link is new where the nodes at its ends have its lanes
link_new : (w : PlainWorld) (number : ℕ) (l : PlainLink) → CanJoin w.decks l → slice_get w.links number ≡ Some l.ends → IsNew w.decks w.links (link_at number l)
link_new w number l can at = by l.hub refl where
  opened : Bool → PlainParty
  opened b = cond b (a_hub (hub.opening (length l.ends) l.plan)) (a_link (link.opening l.kind l.plan))

  reached : (b : Bool) → l.hub ≡ b → (q : QueueId) (s : Rule) → uses (opened b) q ≡ Some s → option_and_then of_frames (rule_there w.decks (option_and_then (λ ends. at_end ends q) (slice_get w.links number))) ≡ Some s
  reached b e q s u =
      ap (λ (o : Option (List End)). option_and_then of_frames (rule_there w.decks (option_and_then (λ ends. at_end ends q) o))) at
      ∙ can.lanes q s (ap (λ (c : Bool). uses (opened c) q) e ∙ u)

  by : (b : Bool) → l.hub ≡ b → IsNew w.decks w.links (opens (who.Link number) (opened b))
  by true e = record { ready = λ later until goes. tt; counted = count_opening (length l.ends) l.plan; served = λ q s u. reached true e q s u; called = tt; holds = refl; home = λ node e. absurd cc }
  by false e = record { ready = λ later until goes. tt; counted = refl; served = λ q s u. reached false e q s u; called = tt; holds = refl; home = λ node e. absurd cc }

-- each of these parties is new
abbrev AreNew : PlainWorld → List PlainOpening → Type 0
AreNew w os = AllByRecursion (IsNew w.decks w.links) os

ifaces_new : Stands → (w : PlainWorld) (place : ℕ) (addr : Option ℕ) (number : ℕ) (n : PlainNode) (all links : List PlainLink) → slice_get w.decks place ≡ Some (opened_deck n all)
    → ((k j : ℕ) (l : PlainLink) → slice_get links k ≡ Some l → j ≡ number + k → slice_get all j ≡ Some l) → AreNew w (ifaces_from place addr number links)
ifaces_new stands w place addr number n all [] at there = tt
ifaces_new stands w place addr number n all (l ∷ links) at there = (
  iface_new stands w place number (heeded addr l) n all l at (there 0 number l refl (omega arith)),
  ifaces_new stands w place addr (number + 1) n all links at (λ k j x e same. there (suc k) j x e (omega (arith, same))),
)

apps_new : Stands → (w : PlainWorld) (place number : ℕ) (n : PlainNode) (links : List PlainLink) (apps : List PlainApp) → slice_get w.decks place ≡ Some (opened_deck n links)
    → number + length apps ≤ length n.apps → AreNew w (apps_from place number apps)
apps_new stands w place number n links [] at few = tt
apps_new stands w place number n links (a ∷ apps) at few =
    (app_new stands w place number a.steps n links at (omega (arith, few)), apps_new stands w place (number + 1) n links apps at (omega (arith, few)))

node_new : Stands → (w : PlainWorld) (place : ℕ) (n : PlainNode) (links : List PlainLink) → slice_get w.decks place ≡ Some (opened_deck n links) → (n.addr ≡ None → length links ≡ BRIDGE_LINKS) → AreNew w (parties_at place n links)
node_new stands w place n links at two = (
  hub_new stands w n.addr place n links at two,
  AllByRecursion-append (IsNew w.decks w.links) (ifaces_from place n.addr 0 links) (apps_from place 0 n.apps)
      (ifaces_new stands w place n.addr 0 n links links at (λ k j l e same. let to : j ≡ k = omega (arith, same) in ap (slice_get links) to ∙ e)) (apps_new stands w place 0 n links n.apps at (omega arith)),
)

-- the lists of the nodes from this place on are there, and a bridge has two links
abbrev AreOpened : PlainWorld → ℕ → List PlainNode → List PlainLink → Type 0
AreOpened w place nodes links = (k j : ℕ) (n : PlainNode) → slice_get nodes k ≡ Some n → j ≡ place + k → (slice_get w.decks j ≡ Some (opened_deck n (links_at j links))) × (n.addr ≡ None → length (links_at j links) ≡ BRIDGE_LINKS)

nodes_new : Stands → (w : PlainWorld) (place : ℕ) (nodes : List PlainNode) (links : List PlainLink) → AreOpened w place nodes links → AreNew w (parties_from place nodes links)
nodes_new stands w place [] links there = tt
nodes_new stands w place (n ∷ nodes) links there =
    let here = there 0 place n refl (omega arith) in
    AllByRecursion-append (IsNew w.decks w.links) (parties_at place n (links_at place links)) (parties_from (place + 1) nodes links)
    (node_new stands w place n (links_at place links) here.0 here.1)
    (nodes_new stands w (place + 1) nodes links (λ k j x e same. there (suc k) j x e (omega (arith, same))))

links_new : (w : PlainWorld) (number : ℕ) (links : List PlainLink) → AllByRecursion (CanJoin w.decks) links → ((k j : ℕ) (l : PlainLink) → slice_get links k ≡ Some l → j ≡ number + k → slice_get w.links j ≡ Some l.ends)
    → AreNew w (links_from number links)
links_new w number [] can there = tt
links_new w number (l ∷ links) can there =
    (link_new w number l can.0 (there 0 number l refl (omega arith)), links_new w (number + 1) links can.1 (λ k j x e same. there (suc k) j x e (omega (arith, same))))

-- so all parties of a scene are new over its lists
parties_new : Stands → (w : PlainWorld) (nodes : List PlainNode) (links : List PlainLink) → AreOpened w 0 nodes links → AllByRecursion (CanJoin w.decks) links → w.links ≡ map (λ l. l.ends) links
    → AreNew w (parties_from 0 nodes links ++ links_from 0 links)
parties_new stands w nodes links there can ends =
    AllByRecursion-append (IsNew w.decks w.links) (parties_from 0 nodes links) (links_from 0 links) (nodes_new stands w 0 nodes links there)
    (links_new w 0 links can (λ k j l e same.
    let to : j ≡ k = omega (arith, same) in
    ap (λ (all : List (List End)). slice_get all j) ends ∙ slice_get-map (λ (x : PlainLink). x.ends) links j ∙ ap (option_map (λ (x : PlainLink). x.ends)) (ap (slice_get links) to ∙ e)))

-- a scene's parties are new over its lists
pub scene_new : Stands → (scene : PlainScene) → IsScene scene → (decks : List PlainDeck) (links : List (List End)) (os : List PlainOpening) → decks ≡ map deck_of (plans_from 0 scene.nodes scene.links)
    → links ≡ map (λ l. l.ends) scene.links → os ≡ parties_of scene → AllByRecursion (IsNew decks links) os
unfolding parties_of
scene_new stands scene is decks links os same_decks same_links same_parties = rw (same_decks, same_links, same_parties) (parties_new stands w scene.nodes scene.links there (all_join stands scene.nodes scene.links scene.links is.links) refl) where
  w : PlainWorld
  w = record { decks = map deck_of (plans_from 0 scene.nodes scene.links); links = map (λ l. l.ends) scene.links; members = []; time = 0 }

  there : AreOpened w 0 scene.nodes scene.links
  there k j n e same =
      let to : j ≡ k = omega (arith, same) in
      let at : slice_get scene.nodes j ≡ Some n = ap (slice_get scene.nodes) to ∙ e in
      (deck_there scene.nodes scene.links j n at, (is.joined j n at).bridge)
