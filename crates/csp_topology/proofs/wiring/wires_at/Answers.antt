use Rattle.std.proofs.Common.{◌≡◌, ℕ, List, length, map, ap, ◌∙◌, arith}
use Rattle.csp_log.specs.declared.who.Who.{Who}
use Rattle.csp_scene.specs.Scene.{PlainNode}
use Rattle.csp_topology.proofs.WireSteps.{listed}
use Rattle.csp_topology.proofs.wiring.wires_at.Goals as goal
use Rattle.csp_topology.specs.Lanes.{leader_of}
use Rattle.csp_topology.specs.Wires.{PlainJoint, wires_with}
use Rattle.csp_topology.specs.Wiring.{wire_by}

pub returns : goal.returns
returns c =
    let node : PlainNode = c.args.node.now in
    let joints : List PlainJoint = c.args.joints.now in
    let apps : c.len-apps.result ≡ length node.apps = omega (arith, c.len-apps.ensures, c.node.inside.apps.ok.0, ap (λ (n : PlainNode). length n.apps) c.node.view_is) in
    listed c.args.spots c.args.place c.leader_of-hub.result joints (length joints) c.len-apps.result c.new-wires.result.items c.push_outer.new.wires.items c.push_outer-2.new.wires.items c.push_inner.new.wires.items
    c.push_inner-2.new.wires.items c.push_inner-3.new.wires.items c.new-wires.ensures.items c.in_ok-push_outer.ensures c.in_ok-push_outer-2.ensures c.in_ok-push_inner.ensures c.in_ok-push_inner-2.ensures c.in_ok-push_inner-3.ensures
    ∙ ap (λ (h : Who). map (wire_by c.args.spots) (wires_with c.args.place h joints (length joints) c.len-apps.result)) c.leader_of-hub.ensures
    ∙ ap (λ (k : ℕ). map (wire_by c.args.spots) (wires_with c.args.place (leader_of c.args.place node.addr) joints (length joints) k)) apps
