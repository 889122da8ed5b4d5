use Rattle.std.proofs.Common.{◌≡◌, ℕ, ◌++◌, List, [], All, length, map, ap, sym, subst, ◌∙◌, arith}
use Rattle.std.specs.List.{AllByRecursion}
use Rattle.std.proofs.lemmas.List.{length-map}
use Rattle.csp_scene.specs.Ranges.{HasEnds, IsPlanned}
use Rattle.csp_scene.specs.Scene.{PlainLink, PlainNode, PlainScene}
use Rattle.csp_topology.proofs.PartyLemmas.{nodes_few}
use Rattle.csp_topology.proofs.PlanLemmas.{links_fit, links_planned, links_shaped, plans_fit}
use Rattle.csp_topology.proofs.SeenLanes.{lanes_are}
use Rattle.csp_topology.proofs.TopologyLemmas.{topology_is}
use Rattle.csp_topology.proofs.WiringLemmas.{all_are_wires}
use Rattle.csp_topology.proofs.topology.Topology.of.Goals as goal
use Rattle.csp_topology.specs.Opening.{FitsBuffers, opening_of}
use Rattle.csp_topology.specs.Parties.{PlainOpening, links_from, parties_from}
use Rattle.csp_topology.specs.Plan.{IsPlan, PlainNodePlan, plans_from}
use Rattle.csp_topology.specs.Wiring.{AreWires, lanes_seen, wired_from}
use Rattle.csp_topology.specs.Writers.{writers_from}
use Rattle.csp_topology.specs.declared.opening.Opening.{Opening}
use Rattle.csp_topology.specs.declared.wire.Wire.{Wire}

pub push_links-requires-clause-planned : goal.push_links-requires-clause-planned
push_links-requires-clause-planned c =
    let scene : PlainScene = c.args.scene.now in
    let links : c.deref-3.result.now ≡ scene.links = c.deref-3.ensures.value ∙ ap (λ (s : PlainScene). s.links) c.scene.view_is in
    subst (λ (ls : List PlainLink). AllByRecursion (λ l. All (IsPlanned (length l.ends)) l.plan) ls) (sym links) (links_planned scene.nodes scene.links scene.links c.requires.links)

pub push_links-requires-clause-shaped : goal.push_links-requires-clause-shaped
push_links-requires-clause-shaped c =
    let scene : PlainScene = c.args.scene.now in
    let links : c.deref-3.result.now ≡ scene.links = c.deref-3.ensures.value ∙ ap (λ (s : PlainScene). s.links) c.scene.view_is in
    subst (λ (ls : List PlainLink). AllByRecursion HasEnds ls) (sym links) (links_shaped scene.nodes scene.links scene.links c.requires.links)

pub push_nodes-requires-clause-shaped : goal.push_nodes-requires-clause-shaped
push_nodes-requires-clause-shaped c =
    let scene : PlainScene = c.args.scene.now in
    let links : c.deref-2.result.now ≡ scene.links = c.deref-2.ensures.value ∙ ap (λ (s : PlainScene). s.links) c.scene.view_is in
    subst (λ (ls : List PlainLink). AllByRecursion HasEnds ls) (sym links) (links_shaped scene.nodes scene.links scene.links c.requires.links)

pub push_nodes-requires-clause-fit : goal.push_nodes-requires-clause-fit
push_nodes-requires-clause-fit c =
    let scene : PlainScene = c.args.scene.now in
    let links : c.deref-2.result.now ≡ scene.links = c.deref-2.ensures.value ∙ ap (λ (s : PlainScene). s.links) c.scene.view_is in
    subst (λ (ls : List PlainLink). AllByRecursion FitsBuffers ls) (sym links) (links_fit scene.nodes scene.links scene.links c.requires.links)

pub returns-clause-whole : goal.returns-clause-whole
returns-clause-whole c =
    let scene : PlainScene = c.args.scene.now in
    let nodes_are : c.scene.inside.nodes.items ≡ scene.nodes = ap (λ (s : PlainScene). s.nodes) c.scene.view_is in
    let links_are : c.scene.inside.links.items ≡ scene.links = ap (λ (s : PlainScene). s.links) c.scene.view_is in
    topology_is c.in_ok-plans_of.field-0.items (lanes_seen 0 (map (λ ws. ws.items) c.in_ok-wires_of.field-0.items)) (map (λ ws. ws.items) c.in_ok-writers_of.field-0.items) (map (λ ends. ends.items) c.in_ok-ends_of.field-0.items) (map opening_of c.push_links.new.openings.items) scene
    (c.in_ok-plans_of.ensures
    ∙ ap (λ (ns : List PlainNode). plans_from 0 ns c.deref-5.result.now) (c.deref-4.ensures.value ∙ nodes_are)
    ∙ ap (λ (ls : List PlainLink). plans_from 0 scene.nodes ls) (c.deref-5.ensures.value ∙ links_are))
    (ap (lanes_seen 0) (c.in_ok-wires_of.ensures
    ∙ ap (λ (ns : List PlainNode). wired_from 0 0 c.len-first_link.result ns c.deref-8.result.now) (c.deref-7.ensures.value ∙ nodes_are)
    ∙ ap (λ (ls : List PlainLink). wired_from 0 0 c.len-first_link.result scene.nodes ls) (c.deref-8.ensures.value ∙ links_are))
    ∙ lanes_are scene c.len-first_link.result)
    (c.in_ok-writers_of.ensures
    ∙ ap (λ (ns : List PlainNode). writers_from 0 ns c.deref-10.result.now) (c.deref-9.ensures.value ∙ nodes_are)
    ∙ ap (λ (ls : List PlainLink). writers_from 0 scene.nodes ls) (c.deref-10.ensures.value ∙ links_are))
    (c.in_ok-ends_of.ensures ∙ ap (λ (ls : List PlainLink). map (λ l. l.ends) ls) (c.deref-6.ensures.value ∙ links_are))
    (c.in_ok-push_links.ensures.parties
    ∙ ap (λ (os : List PlainOpening). os ++ links_from 0 c.deref-3.result.now)
    (c.in_ok-push_nodes.ensures.parties
    ∙ ap (λ os. map opening_of os ++ parties_from 0 c.deref.result.now c.deref-2.result.now) c.new-parties.ensures.items
    ∙ ap (λ (ns : List PlainNode). parties_from 0 ns c.deref-2.result.now) (c.deref.ensures.value ∙ nodes_are)
    ∙ ap (λ (ls : List PlainLink). parties_from 0 scene.nodes ls) (c.deref-2.ensures.value ∙ links_are))
    ∙ ap (λ (ls : List PlainLink). parties_from 0 scene.nodes scene.links ++ links_from 0 ls) (c.deref-3.ensures.value ∙ links_are))

pub returns-clause-nodes : goal.returns-clause-nodes
returns-clause-nodes c =
    let scene : PlainScene = c.args.scene.now in
    let nodes : c.deref-4.result.now ≡ scene.nodes = c.deref-4.ensures.value ∙ ap (λ (s : PlainScene). s.nodes) c.scene.view_is in
    let links : c.deref-5.result.now ≡ scene.links = c.deref-5.ensures.value ∙ ap (λ (s : PlainScene). s.links) c.scene.view_is in
    subst (λ (ns : List PlainNodePlan). AllByRecursion IsPlan ns)
    (sym (c.in_ok-plans_of.ensures ∙ ap (λ (ns : List PlainNode). plans_from 0 ns c.deref-5.result.now) nodes ∙ ap (λ (ls : List PlainLink). plans_from 0 scene.nodes ls) links))
    (plans_fit 0 scene.nodes scene.links c.requires.nodes c.requires.few_links)

-- the links stand after the parties of the nodes
first_link : (scene : PlainScene) (ns : List PlainNode) (ls : List PlainLink) (before after : List Opening) → map opening_of after ≡ map opening_of before ++ parties_from 0 ns ls → before ≡ [] → ns ≡ scene.nodes → ls ≡ scene.links
    → length after ≡ length (parties_from 0 scene.nodes scene.links)
first_link scene ns ls before after parties none nodes links =
    sym (length-map after opening_of)
    ∙ ap (λ (ps : List PlainOpening). length ps)
    (parties
    ∙ ap (λ (os : List Opening). map opening_of os ++ parties_from 0 ns ls) none
    ∙ ap (λ (xs : List PlainNode). parties_from 0 xs ls) nodes
    ∙ ap (λ (xs : List PlainLink). parties_from 0 scene.nodes xs) links)

pub overflow_cast-first_link : goal.overflow_cast-first_link
overflow_cast-first_link c =
    let scene : PlainScene = c.args.scene.now in
    let nodes = c.deref.ensures.value ∙ ap (λ (s : PlainScene). s.nodes) c.scene.view_is in
    let links = c.deref-2.ensures.value ∙ ap (λ (s : PlainScene). s.links) c.scene.view_is in
    let count = first_link scene c.deref.result.now c.deref-2.result.now c.new-parties.result.items c.push_nodes.new.openings.items c.in_ok-push_nodes.ensures.parties c.new-parties.ensures.items nodes links in
    omega (arith, count, nodes_few scene c.requires, c.len-first_link.ensures, c.push_nodes.new.openings.ok.0)

pub wires_of-requires-clause-links : goal.wires_of-requires-clause-links
wires_of-requires-clause-links c =
    let scene : PlainScene = c.args.scene.now in
    let nodes = c.deref.ensures.value ∙ ap (λ (s : PlainScene). s.nodes) c.scene.view_is in
    let links = c.deref-2.ensures.value ∙ ap (λ (s : PlainScene). s.links) c.scene.view_is in
    let count = first_link scene c.deref.result.now c.deref-2.result.now c.new-parties.result.items c.push_nodes.new.openings.items c.in_ok-push_nodes.ensures.parties c.new-parties.ensures.items nodes links in
    omega (arith, count, nodes_few scene c.requires, c.len-first_link.ensures, c.push_nodes.new.openings.ok.0)

pub returns-clause-wires : goal.returns-clause-wires
returns-clause-wires c are =
    let scene : PlainScene = c.args.scene.now in
    let first : ℕ = length (parties_from 0 scene.nodes scene.links) in
    let nodes_are : c.scene.inside.nodes.items ≡ scene.nodes = ap (λ (s : PlainScene). s.nodes) c.scene.view_is in
    let links_are : c.scene.inside.links.items ≡ scene.links = ap (λ (s : PlainScene). s.links) c.scene.view_is in
    let count = first_link scene c.deref.result.now c.deref-2.result.now c.new-parties.result.items c.push_nodes.new.openings.items c.in_ok-push_nodes.ensures.parties c.new-parties.ensures.items
    (c.deref.ensures.value ∙ nodes_are) (c.deref-2.ensures.value ∙ links_are) in
    let begins : c.len-first_link.result ≡ first = omega (arith, count, c.len-first_link.ensures, c.push_nodes.new.openings.ok.0) in
    subst (λ (ws : List (List Wire)). AreWires scene ws)
    (sym (c.in_ok-wires_of.ensures
    ∙ ap (λ (n : ℕ). wired_from 0 0 n c.deref-7.result.now c.deref-8.result.now) begins
    ∙ ap (λ (ns : List PlainNode). wired_from 0 0 first ns c.deref-8.result.now) (c.deref-7.ensures.value ∙ nodes_are)
    ∙ ap (λ (ls : List PlainLink). wired_from 0 0 first scene.nodes ls) (c.deref-8.ensures.value ∙ links_are)))
    (all_are_wires scene are)
