-- Lemmas on the parties of a scene.
use Rattle.std.proofs.Common.{◌≡◌, ℕ, ◌+◌, ◌*◌, ◌≤◌, Bool, true, false, cond, Option, Some, None, List, [], ◌∷◌, ◌++◌, length, refl, sym, ap, ◌∙◌, arith}
use Rattle.std.specs.Prelude.{IfSome}
use Rattle.std.specs.List.{AllByRecursion}
use Rattle.std.proofs.lemmas.List.{append_assoc, length-append}
use Rattle.std.proofs.lemmas.List.FromFn.{length-map-range_with_len}
use Rattle.csp_hub.specs.PlainHub as hub
use Rattle.csp_link.specs.declared.fault.Fault.{Fault}
use Rattle.csp_log.specs.declared.places.LinkKind.{LinkKind}
use Rattle.csp_log.specs.declared.places.LinkKind.TheVariants as link
use Rattle.csp_scene.specs.Links.{links_at}
use Rattle.csp_scene.specs.Ranges.{HasEnds, IsNode, IsScene}
use Rattle.csp_scene.specs.Scene.{PlainApp, PlainLink, PlainNode, PlainScene}
use Rattle.csp_base.specs.declared.limits.TheConstants.{MAX_APPS}
use Rattle.csp_scene.specs.declared.limits.TheConstants.{DEFAULT_MTU, MAX_LINKS}
use Rattle.csp_topology.proofs.PlanLemmas.{links_few}
use Rattle.csp_topology.specs.Parties.{PlainOpening, apps_from, heeded, iface_on, ifaces_from, links_from, parties_at, parties_from, parties_of}
use Rattle.csp_topology.specs.declared.topology.TheConstants.{MAX_PARTIES}

-- how many parties there are
pub ifaces_count : (place : ℕ) (addr : Option ℕ) (number : ℕ) (links : List PlainLink) → length (ifaces_from place addr number links) ≡ length links
ifaces_count place addr number [] = refl
ifaces_count place addr number (l ∷ links) = let h = ifaces_count place addr (number + 1) links in omega (arith, h)

apps_count : (place number : ℕ) (apps : List PlainApp) → length (apps_from place number apps) ≡ length apps
apps_count place number [] = refl
apps_count place number (a ∷ apps) = let h = apps_count place (number + 1) apps in omega (arith, h)

pub links_count : (number : ℕ) (links : List PlainLink) → length (links_from number links) ≡ length links
links_count number [] = refl
links_count number (l ∷ links) = let h = links_count (number + 1) links in omega (arith, h)

pub node_count : (place : ℕ) (n : PlainNode) (links : List PlainLink) → length (parties_at place n links) ≡ 1 + length links + length n.apps
node_count place n links =
    let both = length-append (ifaces_from place n.addr 0 links) (apps_from place 0 n.apps) in
    omega (arith, both, ifaces_count place n.addr 0 links, apps_count place 0 n.apps)

nodes_count : (place : ℕ) (nodes : List PlainNode) (links : List PlainLink) → length links ≤ MAX_LINKS → AllByRecursion IsNode nodes → length (parties_from place nodes links) ≤ length nodes * (1 + MAX_LINKS + MAX_APPS)
nodes_count place [] links few h = omega arith
nodes_count place (n ∷ nodes) links few h =
    let both = length-append (parties_at place n (links_at place links)) (parties_from (place + 1) nodes links) in
    let here = node_count place n (links_at place links) in
    omega (arith, both, here, links_few place links, h.0.few, nodes_count (place + 1) nodes links few h.1)

pub parties_few : (scene : PlainScene) → IsScene scene → length (parties_of scene) ≤ MAX_PARTIES
unfolding parties_of
parties_few scene h =
    let both = length-append (parties_from 0 scene.nodes scene.links) (links_from 0 scene.links) in
    omega (arith, both, nodes_count 0 scene.nodes scene.links h.few_links h.nodes, links_count 0 scene.links, h.few, h.few_links)

-- and where the links begin among them
pub nodes_few : (scene : PlainScene) → IsScene scene → length (parties_from 0 scene.nodes scene.links) ≤ MAX_PARTIES
nodes_few scene h = omega (arith, nodes_count 0 scene.nodes scene.links h.few_links h.nodes, h.few)

-- the interfaces with one more
ifaces-more : (place : ℕ) (addr : Option ℕ) (number : ℕ) (links : List PlainLink) (l : PlainLink)
    → ifaces_from place addr number (links ++ l ∷ []) ≡ ifaces_from place addr number links ++ iface_on place (number + length links) l.kind l.mtu (heeded addr l) ∷ []
ifaces-more place addr number [] l = ap (λ (k : ℕ). iface_on place k l.kind l.mtu (heeded addr l) ∷ []) (omega arith)
ifaces-more place addr number (x ∷ links) l =
    ap (λ os. iface_on place number x.kind x.mtu (heeded addr x) ∷ os)
    (ifaces-more place addr (number + 1) links l ∙ ap (λ (k : ℕ). ifaces_from place addr (number + 1) links ++ iface_on place k l.kind l.mtu (heeded addr l) ∷ []) (omega arith))

pub ifaces-push : (os : List PlainOpening) (place : ℕ) (addr : Option ℕ) (number : ℕ) (carried : LinkKind) (most : ℕ) (heeds : Option ℕ) (links : List PlainLink) (l : PlainLink)
    → number ≡ length links → carried ≡ l.kind → most ≡ l.mtu → heeds ≡ heeded addr l
    → (os ++ ifaces_from place addr 0 links) ++ iface_on place number carried most heeds ∷ [] ≡ os ++ ifaces_from place addr 0 (links ++ l ∷ [])
ifaces-push os place addr number carried most heeds links l count same limit heed =
    append_assoc os (ifaces_from place addr 0 links) (iface_on place number carried most heeds ∷ [])
    ∙ ap (λ (k : LinkKind). os ++ (ifaces_from place addr 0 links ++ iface_on place number k most heeds ∷ [])) same
    ∙ ap (λ (m : ℕ). os ++ (ifaces_from place addr 0 links ++ iface_on place number l.kind m heeds ∷ [])) limit
    ∙ ap (λ (h : Option ℕ). os ++ (ifaces_from place addr 0 links ++ iface_on place number l.kind l.mtu h ∷ [])) heed
    ∙ ap (λ (k : ℕ). os ++ (ifaces_from place addr 0 links ++ iface_on place k l.kind l.mtu (heeded addr l) ∷ [])) (omega (arith, count))
    ∙ ap (λ (is : List PlainOpening). os ++ is) (sym (ifaces-more place addr 0 links l))

-- what an interface on a hub heeds stands on a CAN bus
pub heeds_can : (addr : Option ℕ) (l : PlainLink) → HasEnds l → IfSome (heeded addr l) (λ (a : ℕ). (l.kind ≡ link.Can) × (l.mtu ≡ DEFAULT_MTU))
heeds_can addr l is = by l.hub addr refl where
  by : (b : Bool) (a : Option ℕ) → l.hub ≡ b → IfSome (cond b a None) (λ (n : ℕ). (l.kind ≡ link.Can) × (l.mtu ≡ DEFAULT_MTU))
  by true (Some a) e = is.bus e
  by true None e = tt
  by false a e = tt

-- a hub opens with as many ends as it is given
pub opened_ends : (ends : ℕ) (plan : List Fault) → length (hub.opening ends plan).ends ≡ ends
opened_ends ends plan = length-map-range_with_len (hub.opening_end plan) 0 ends
