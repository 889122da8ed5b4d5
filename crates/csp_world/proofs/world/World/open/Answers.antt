use Rattle.std.proofs.Common.{◌≡◌, List, length, map, ap, subst, sym, ◌∙◌, arith}
use Rattle.csp_scene.specs.Scene.{PlainScene}
use Rattle.csp_topology.proofs.Public.{plans_count}
use Rattle.csp_topology.specs.Plan.{PlainNodePlan, plans_from}
use Rattle.csp_topology.specs.Topology.{PlainTopology}
use Rattle.csp_world.proofs.OpeningParties.{scene_new}
use Rattle.csp_world.proofs.ReachingLemmas.{reached_opening}
use Rattle.csp_world.proofs.world.World.open.Goals as goal
use Rattle.csp_topology.specs.Opening.{opening_of}
use Rattle.csp_world.proofs.OpenedLemmas.{opens_as}
use Rattle.csp_world.specs.Opening.{deck_of, new_member}
use Rattle.csp_world.specs.Reached.{IsReached}
use Rattle.csp_world.specs.World.{PlainWorld}

pub over-requires-clause-few : goal.over-requires-clause-few
over-requires-clause-few c =
    let scene : PlainScene = c.args.scene.now in
    let nodes : c.deref.result.now ≡ plans_from 0 scene.nodes scene.links = c.deref.ensures.value ∙ ap (λ (t : PlainTopology). t.nodes) c.in_ok-nodes.ensures.whole in
    omega (arith, ap (λ (ns : List PlainNodePlan). length ns) nodes, plans_count 0 scene.nodes scene.links, c.requires.few)

pub add_parties-requires-clause-few_nodes : goal.add_parties-requires-clause-few_nodes
add_parties-requires-clause-few_nodes c =
    let scene : PlainScene = c.args.scene.now in
    let nodes : c.deref-2.result.now ≡ plans_from 0 scene.nodes scene.links = c.deref-2.ensures.value ∙ ap (λ (t : PlainTopology). t.nodes) c.in_ok-nodes.ensures.whole in
    omega (arith, ap (λ (ns : List PlainNodePlan). length ns) nodes, plans_count 0 scene.nodes scene.links, c.requires.few)

pub add_parties-requires-clause-new : goal.add_parties-requires-clause-new
add_parties-requires-clause-new c =
    let scene : PlainScene = c.args.scene.now in
    let whole = c.in_ok-nodes.ensures.whole in
    let nodes : c.deref.result.now ≡ plans_from 0 scene.nodes scene.links = c.deref.ensures.value ∙ ap (λ (t : PlainTopology). t.nodes) whole in
    scene_new c.opens.ensures.stands scene c.requires c.in_ok-world.world.plain.decks c.in_ok-world.world.plain.links _
    (ap (λ (w : PlainWorld). w.decks) c.in_ok-world.ensures ∙ ap (λ (ns : List PlainNodePlan). map deck_of ns) nodes)
    (ap (λ (w : PlainWorld). w.links) c.in_ok-world.ensures ∙ ap (λ (t : PlainTopology). t.links) whole)
    (ap (λ (t : PlainTopology). t.parties) whole)

pub returns-in-Ok-clause-plain : goal.returns-in-Ok-clause-plain
returns-in-Ok-clause-plain c =
    let links = map (λ ends. ends.items) c.in_ok-nodes.field-0.links.items in
    let members = map new_member (map opening_of c.in_ok-nodes.field-0.parties.items) in
    c.in-Ok.ensures ∙ ap (λ (w : PlainWorld). record w { members = members }) c.in_ok-world.ensures
    ∙ ap (λ (ns : List PlainNodePlan). record { decks = map deck_of ns; links = links; members = members; time = 0 }) c.deref.ensures.value ∙ opens_as c.args.scene.now _ c.in_ok-nodes.ensures.whole

pub returns-in-Ok-clause-reached : goal.returns-in-Ok-clause-reached
returns-in-Ok-clause-reached c = subst (IsReached c.args.scene.now) (sym (returns-in-Ok-clause-plain c)) (reached_opening c.args.scene.now)
