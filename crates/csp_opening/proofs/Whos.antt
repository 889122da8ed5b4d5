-- Who the parties of a scene are.
use Rattle.std.proofs.Common.{◌≡◌, ◌+◌, ◌<◌, ◌≤◌, ℕ, List, [], ◌∷◌, Option, None, Some, length, map, refl, sym, ◌∙◌, arith}
use Rattle.std.specs.Prelude.{⊤, IfSome, slice_get}
use Rattle.std.specs.List.{AllByRecursion}
use Rattle.std.specs.Option.{option_map}
use Rattle.std.proofs.lemmas.List.Sums.{count_by-le-length, length-filter}
use Rattle.std.proofs.lemmas.Option.{same_Some, slice_get-map}
use Rattle.csp_opening.proofs.Passing.{IsMarkable, NamedApart}
use Rattle.csp_log.specs.Who.{node_of}
use Rattle.csp_log.specs.declared.who.Who.{Who}
use Rattle.csp_log.specs.declared.who.Who.TheVariants as who
use Rattle.csp_scene.proofs.Public.{AllByRecursion-append}
use Rattle.csp_scene.specs.Links.{links_at, touches}
use Rattle.csp_scene.specs.Ranges.{IsScene}
use Rattle.csp_scene.specs.Scene.{PlainApp, PlainLink, PlainNode, PlainScene}
use Rattle.csp_topology.specs.Parties.{PlainOpening, apps_from, leader_opening, ifaces_from, links_from, parties_at, parties_from, parties_of}

-- a party of a node is of one of so many, and an interface is on one of its links
abbrev pub IsThere : ℕ → List PlainLink → Who → Type 0
IsThere nodes links (who.Router m) = m < nodes
IsThere nodes links (who.Bridge m) = m < nodes
IsThere nodes links (who.Iface m k) = (m < nodes) × (k < length (links_at m links))
IsThere nodes links (who.App m k) = m < nodes
IsThere nodes links (who.Link k) = ⊤

abbrev AreThere : ℕ → List PlainLink → List PlainOpening → Type 0
AreThere nodes links os = AllByRecursion (λ (o : PlainOpening). IsThere nodes links o.who) os

ifaces_there : (nodes : ℕ) (all : List PlainLink) (m : ℕ) (addr : Option ℕ) (number : ℕ) (links : List PlainLink) → m < nodes → number + length links ≤ length (links_at m all) → AreThere nodes all (ifaces_from m addr number links)
ifaces_there nodes all m addr number [] low few = tt
ifaces_there nodes all m addr number (l ∷ links) low few = ((low, omega (arith, few)), ifaces_there nodes all m addr (number + 1) links low (omega (arith, few)))

apps_there : (nodes : ℕ) (all : List PlainLink) (m number : ℕ) (apps : List PlainApp) → m < nodes → AreThere nodes all (apps_from m number apps)
apps_there nodes all m number [] low = tt
apps_there nodes all m number (a ∷ apps) low = (low, apps_there nodes all m (number + 1) apps low)

hub_there : (nodes : ℕ) (all : List PlainLink) (addr : Option ℕ) (m : ℕ) (n : PlainNode) (links : List PlainLink) → m < nodes → IsThere nodes all (leader_opening addr m n links).who
hub_there nodes all (Some a) m n links low = low
hub_there nodes all None m n links low = low

nodes_there : (count : ℕ) (all : List PlainLink) (place : ℕ) (nodes : List PlainNode) → place + length nodes ≤ count → AreThere count all (parties_from place nodes all)
nodes_there count all place [] few = tt
nodes_there count all place (n ∷ nodes) few =
    let low : place < count = omega (arith, few) in
    let here = links_at place all in
    AllByRecursion-append (λ (o : PlainOpening). IsThere count all o.who) (parties_at place n here) (parties_from (place + 1) nodes all) (
      hub_there count all n.addr place n here low,
      AllByRecursion-append (λ (o : PlainOpening). IsThere count all o.who) (ifaces_from place n.addr 0 here) (apps_from place 0 n.apps) (ifaces_there count all place n.addr 0 here low (omega arith)) (apps_there count all place 0 n.apps low),
    )
    (nodes_there count all (place + 1) nodes (omega (arith, few)))

links_there : (count : ℕ) (all : List PlainLink) (number : ℕ) (links : List PlainLink) → AreThere count all (links_from number links)
links_there count all number [] = tt
links_there count all number (l ∷ links) = (tt, links_there count all (number + 1) links)

pub parties_there : (scene : PlainScene) → AllByRecursion (λ (o : PlainOpening). IsThere (length scene.nodes) scene.links o.who) (parties_of scene)
unfolding parties_of
parties_there scene =
    AllByRecursion-append (λ (o : PlainOpening). IsThere (length scene.nodes) scene.links o.who) (parties_from 0 scene.nodes scene.links) (links_from 0 scene.links)
    (nodes_there (length scene.nodes) scene.links 0 scene.nodes (omega arith)) (links_there (length scene.nodes) scene.links 0 scene.links)

-- its node is there
pub node_low : (nodes : ℕ) (links : List PlainLink) (w : Who) → IsThere nodes links w → IfSome (node_of w) (λ m. m < nodes)
node_low nodes links (who.Router m) h = h
node_low nodes links (who.Bridge m) h = h
node_low nodes links (who.Iface m k) h = h.0
node_low nodes links (who.App m k) h = h
node_low nodes links (who.Link k) h = tt

few_links : (m : ℕ) (links : List PlainLink) → length (links_at m links) ≤ length links
few_links m links = let a = length-filter (touches m) links in let b = count_by-le-length (touches m) links in omega (arith, a, b)

markable : (nodes : ℕ) (links : List PlainLink) (w : Who) → length links ≤ 12 → IsThere nodes links w → IsMarkable nodes w
markable nodes links (who.Router m) few h = tt
markable nodes links (who.Bridge m) few h = tt
markable nodes links (who.Iface m k) few h = (h.0, (let low = h.1 in let most = few_links m links in omega (arith, low, most, few)))
markable nodes links (who.App m k) few h = h
markable nodes links (who.Link k) few h = tt

pub all_markable : (scene : PlainScene) → IsScene scene → AllByRecursion (IsMarkable (length scene.nodes)) (map (λ (o : PlainOpening). o.who) (parties_of scene))
all_markable scene is = by (parties_of scene) (parties_there scene) where
  by : (os : List PlainOpening) → AllByRecursion (λ (o : PlainOpening). IsThere (length scene.nodes) scene.links o.who) os → AllByRecursion (IsMarkable (length scene.nodes)) (map (λ (o : PlainOpening). o.who) os)
  by [] h = tt
  by (o ∷ os) h = (markable (length scene.nodes) scene.links o.who is.few_links h.0, by os h.1)

-- what csp_topology says of names, of a list of names
pub named_apart : (os : List PlainOpening) → ((i j : ℕ) (o p : PlainOpening) → slice_get os i ≡ Some o → slice_get os j ≡ Some p → o.who ≡ p.who → i ≡ j) → NamedApart (map (λ (o : PlainOpening). o.who) os)
named_apart os apart i j w e f = by (slice_get os i) (slice_get os j) refl refl (sym (slice_get-map (λ (o : PlainOpening). o.who) os i) ∙ e) (sym (slice_get-map (λ (o : PlainOpening). o.who) os j) ∙ f) where
  by : (a b : Option PlainOpening) → slice_get os i ≡ a → slice_get os j ≡ b → option_map (λ (o : PlainOpening). o.who) a ≡ Some w → option_map (λ (o : PlainOpening). o.who) b ≡ Some w → i ≡ j
  by (Some o) (Some p) at there x y = apart i j o p at there (same_Some o.who w x ∙ sym (same_Some p.who w y))
  by None b at there x y = absurd cc
  by (Some o) None at there x y = absurd cc

pub parties_low : (scene : PlainScene) → AllByRecursion (λ (o : PlainOpening). IfSome (node_of o.who) (λ m. m < length scene.nodes)) (parties_of scene)
parties_low scene = by (parties_of scene) (parties_there scene) where
  by : (os : List PlainOpening) → AllByRecursion (λ (o : PlainOpening). IsThere (length scene.nodes) scene.links o.who) os → AllByRecursion (λ (o : PlainOpening). IfSome (node_of o.who) (λ m. m < length scene.nodes)) os
  by [] h = tt
  by (o ∷ os) h = (node_low (length scene.nodes) scene.links o.who h.0, by os h.1)
