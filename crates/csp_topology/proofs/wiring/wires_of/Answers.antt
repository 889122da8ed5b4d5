use Rattle.std.proofs.Common.{◌≡◌, ℕ, ◌+◌, ◌<◌, ◌++◌, List, drop, length, map, ap, ◌∙◌, arith}
use Rattle.std.proofs.lemmas.List.{map-append}
use Rattle.csp_scene.specs.Links.{links_at}
use Rattle.csp_scene.specs.Scene.{PlainLink, PlainNode}
use Rattle.csp_topology.proofs.PlanLemmas.{links_few}
use Rattle.csp_topology.proofs.WireSteps.{each_node, joints_few, joints_same, one_node, spots_at}
use Rattle.csp_topology.proofs.wiring.wires_of.Goals as goal
use Rattle.csp_topology.specs.Lanes.{leader_of}
use Rattle.csp_topology.specs.Wires.{PlainJoint, joints_at, joints_from, wires_at, wires_with}
use Rattle.csp_topology.specs.Wiring.{wire_by, wired_from}
use Rattle.csp_topology.specs.declared.wire.Wire.{Wire}

pub overflow_add-first-in-loop-place : goal.overflow_add-first-in-loop-place
overflow_add-first-in-loop-place c =
    let place = c.loop-place.place in
    let links : List PlainLink = c.args.links.now in
    let node : PlainNode = c.index-nodes-place.result in
    let here : length c.in_ok-here.here.items ≡ length (joints_at place (joints_from 0 links)) = ap (λ (js : List PlainJoint). length js) (c.in_ok-here.ensures ∙ ap (joints_at place) (c.deref.ensures.value ∙ c.in_ok-joints.ensures)) in
    let few = joints_few c.args.nodes.now links place 0 links c.requires.ends in
    let apps = ap (λ (n : PlainNode). length n.apps) c.node.view_is in
    let is = each_node c.args.nodes.now c.requires.nodes place node c.loop-place-test.true c.index-nodes-place.is in
    omega (arith, c.len-in-loop-place.ensures, c.len-in-loop-place-2.ensures, here, c.in_ok-here.here.ok.0, c.node.inside.apps.ok.0, few, c.requires.few_links, apps, is.few)

pub overflow_add-first-in-loop-place-2 : goal.overflow_add-first-in-loop-place-2
overflow_add-first-in-loop-place-2 c =
    let place = c.loop-place.place in
    let links : List PlainLink = c.args.links.now in
    let node : PlainNode = c.index-nodes-place.result in
    let here : length c.in_ok-here.here.items ≡ length (joints_at place (joints_from 0 links)) = ap (λ (js : List PlainJoint). length js) (c.in_ok-here.ensures ∙ ap (joints_at place) (c.deref.ensures.value ∙ c.in_ok-joints.ensures)) in
    let few = joints_few c.args.nodes.now links place 0 links c.requires.ends in
    let apps = ap (λ (n : PlainNode). length n.apps) c.node.view_is in
    let low : place < length c.args.nodes.now = c.loop-place-test.true in
    let is = each_node c.args.nodes.now c.requires.nodes place node low c.index-nodes-place.is in
    omega (arith, c.len-in-loop-place.ensures, c.len-in-loop-place-2.ensures, here, c.in_ok-here.here.ok.0, c.node.inside.apps.ok.0, few, c.requires.few_links, c.requires.few, apps, is.few, low, c.loop-place.invariant.low)

pub wires_at-requires-clause-few : goal.wires_at-requires-clause-few
wires_at-requires-clause-few c =
    let links : List PlainLink = c.args.links.now in
    let place = c.loop-place.place in
    let here : c.deref-in-loop-place.result.now ≡ joints_at place (joints_from 0 links) = c.deref-in-loop-place.ensures.value ∙ c.in_ok-here.ensures ∙ ap (joints_at place) (c.deref.ensures.value ∙ c.in_ok-joints.ensures) in
    omega (arith, ap (λ (js : List PlainJoint). length js) here, joints_few c.args.nodes.now links place 0 links c.requires.ends, c.requires.few_links)

pub loop-place-preserved : goal.loop-place-preserved
loop-place-preserved c =
    let place = c.loop-place.place in
    let first = c.loop-place.first in
    let last = c.args.first_link in
    let links : List PlainLink = c.args.links.now in
    let all : List PlainJoint = joints_from 0 links in
    let node : PlainNode = c.index-nodes-place.result in
    let ifaces = length (links_at place links) in
    let here : c.in_ok-here.here.items ≡ joints_at place all = c.in_ok-here.ensures ∙ ap (joints_at place) (c.deref.ensures.value ∙ c.in_ok-joints.ensures) in
    let same = joints_same c.args.nodes.now links place 0 links c.requires.ends in
    let count : c.len.result ≡ ifaces = omega (arith, c.len.ensures, c.in_ok-here.here.ok.0, ap (λ (js : List PlainJoint). length js) here, same) in
    let again : c.len-in-loop-place.result ≡ ifaces = omega (arith, c.len-in-loop-place.ensures, c.in_ok-here.here.ok.0, ap (λ (js : List PlainJoint). length js) here, same) in
    let few = links_few place links in
    let apps : c.len-in-loop-place-2.result ≡ length node.apps = omega (arith, c.len-in-loop-place-2.ensures, c.node.inside.apps.ok.0, ap (λ (n : PlainNode). length n.apps) c.node.view_is) in
    let low : place < length c.args.nodes.now = c.loop-place-test.true in
    let is = each_node c.args.nodes.now c.requires.nodes place node low c.index-nodes-place.is in
    let made : c.in_ok-wires_at.field-0.items ≡ map (wire_by (spots_at first ifaces last)) (wires_at place node links) =
    c.in_ok-wires_at.ensures
    ∙ ap (λ (js : List PlainJoint). map (wire_by (spots_at first c.len.result last)) (wires_with place (leader_of place node.addr) js (length js) (length node.apps))) (c.deref-in-loop-place.ensures.value ∙ here)
    ∙ ap (λ (k : ℕ). map (wire_by (spots_at first k last)) (wires_with place (leader_of place node.addr) (joints_at place all) (length (joints_at place all)) (length node.apps))) count
    ∙ ap (λ (k : ℕ). map (wire_by (spots_at first ifaces last)) (wires_with place (leader_of place node.addr) (joints_at place all) k (length node.apps))) same in
    let next = first + (1 + c.len-in-loop-place.result + c.len-in-loop-place-2.result) in
    record {
      wires =
          ap (λ (ws : List (List Wire)). ws ++ wired_from (place + 1) next last (drop (place + 1) c.args.nodes.now) links) (ap (map (λ ws. ws.items)) c.in_ok-push.ensures.items ∙ map-append (λ ws. ws.items) c.loop-place.all.items _)
          ∙ one_node (map (λ ws. ws.items) c.loop-place.all.items) _ c.in_ok-wires_at.field-0.items place first next last c.args.nodes.now links node low c.index-nodes-place.is c.loop-place.invariant.wires made
          (omega (arith, again, apps));
      low = omega (arith, again, apps, few, c.requires.few_links, is.few, c.loop-place.invariant.low);
    }
