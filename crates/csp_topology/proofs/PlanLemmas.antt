-- Lemmas on the pool and the queues of a node.
use Rattle.std.proofs.Common.{◌≡◌, ℕ, suc, ◌+◌, ◌≤◌, List, [], ◌∷◌, All, length, refl, ap, arith}
use Rattle.std.specs.List.{AllByRecursion}
use Rattle.std.proofs.lemmas.List.{length-map}
use Rattle.std.proofs.lemmas.List.Elements.{All-map}
use Rattle.std.proofs.lemmas.List.Sums.{length-filter, count_by-le-length}
use Rattle.csp_log.specs.Kinds.{carried_on}
use Rattle.csp_lists.specs.PlainDeck.{IsLinkRule}
use Rattle.csp_log.specs.declared.places.LinkKind.{LinkKind}
use Rattle.csp_log.specs.declared.places.LinkKind.TheVariants as kind
use Rattle.csp_scene.specs.Links.{links_at, touches}
use Rattle.csp_scene.specs.Ranges.{HasEnds, IsLink, IsNode, IsPlanned}
use Rattle.csp_scene.specs.Scene.{PlainNode, PlainLink}
use Rattle.csp_scene.specs.declared.limits.TheConstants.{MAX_LINKS}
use Rattle.csp_topology.specs.Opening.{FitsBuffers}
use Rattle.csp_topology.specs.Plan.{IsPlan, plan_of, plans_from}

-- a node has no more links than there are
pub links_few : (place : ℕ) (links : List PlainLink) → length (links_at place links) ≤ length links
links_few place links = omega (arith, length-filter (touches place) links, count_by-le-length (touches place) links)

-- its lanes carry what links carry
pub link_rule : (k : LinkKind) → IsLinkRule (carried_on k)
link_rule kind.Kiss = tt
link_rule kind.KissHeader = tt
link_rule kind.Can = tt

-- there is a plan of each node
pub plans_count : (place : ℕ) (nodes : List PlainNode) (links : List PlainLink) → length (plans_from place nodes links) ≡ length nodes
plans_count place [] links = refl
plans_count place (n ∷ nodes) links = ap suc (plans_count (place + 1) nodes links)

-- a node of a scene can be opened
plan_fits : (place : ℕ) (n : PlainNode) (links : List PlainLink) → IsNode n → length links ≤ MAX_LINKS → IsPlan (plan_of n (links_at place links))
plan_fits place n links is few = record {
  some = omega (arith, is.least);
  apps = is.few;
  few = omega (arith, length-map (links_at place links) (λ (l : PlainLink). carried_on l.kind), links_few place links, few);
  lanes = All-map IsLinkRule (λ (l : PlainLink). carried_on l.kind) (links_at place links) (λ k l low. link_rule _);
}

-- and so can each
pub plans_fit : (place : ℕ) (nodes : List PlainNode) (links : List PlainLink) → AllByRecursion IsNode nodes → length links ≤ MAX_LINKS → AllByRecursion IsPlan (plans_from place nodes links)
plans_fit place [] links is few = tt
plans_fit place (n ∷ nodes) links is few = (plan_fits place n links is.0 few, plans_fit (place + 1) nodes links is.1 few)

-- the faults of links are in their ranges
pub links_planned : (nodes : List PlainNode) (all links : List PlainLink) → AllByRecursion (IsLink nodes all) links → AllByRecursion (λ l. All (IsPlanned (length l.ends)) l.plan) links
links_planned nodes all [] is = tt
links_planned nodes all (l ∷ links) is = (is.0.plan, links_planned nodes all links is.1)

-- they have their ends
pub links_shaped : (nodes : List PlainNode) (all links : List PlainLink) → AllByRecursion (IsLink nodes all) links → AllByRecursion HasEnds links
links_shaped nodes all [] is = tt
links_shaped nodes all (l ∷ links) is = (is.0.shape, links_shaped nodes all links is.1)

-- and so are the payloads on them
pub links_fit : (nodes : List PlainNode) (all links : List PlainLink) → AllByRecursion (IsLink nodes all) links → AllByRecursion FitsBuffers links
links_fit nodes all [] is = tt
links_fit nodes all (l ∷ links) is = (omega (arith, is.0.mtu.1), links_fit nodes all links is.1)
