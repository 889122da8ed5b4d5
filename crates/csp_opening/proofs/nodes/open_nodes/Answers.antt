use Rattle.std.proofs.Common.{◌≡◌, ◌<◌, ◌+◌, ◌++◌, ◌∷◌, [], Some, length, map, take, refl, sym, subst, ap, ◌∙◌, arith}
use Rattle.std.specs.Global.{Vec}
use Rattle.std.specs.List.{AllByRecursion}
use Rattle.std.specs.Option.{option_map}
use Rattle.std.specs.Prelude.{slice_get}
use Rattle.std.proofs.lemmas.Option.{slice_get-map, slice_get_read}
use Rattle.csp_opening.proofs.Leaving.{can_leave, nodes_more, take_more}
use Rattle.csp_opening.specs.Opened.{AreNodesWith, CanLeave, IsNodeOf}
use Rattle.csp_scene.proofs.Public.{AllByRecursion-push}
use Rattle.csp_topology.specs.declared.wire.Wire.{Wire}
use Rattle.csp_opening.proofs.nodes.open_nodes.Goals as goal

pub loop-place-preserved : goal.loop-place-preserved
loop-place-preserved g c =
    let place = c.loop-place.place in
    let nodes = c.args.nodes.now in
    let wires = c.args.wires.now in
    let before = c.loop-place.invariant in
    let low : place < length nodes = c.loop-place-test.true in
    let count = c.requires.count in
    let here : place < length wires = omega (arith, low, count) in
    let node : slice_get nodes place ≡ Some c.index-nodes-place.result = slice_get_read nodes (length nodes) place c.index-nodes-place.result refl low c.index-nodes-place.is in
    let row : slice_get wires place ≡ Some c.index-wires-place.result = slice_get_read wires (length wires) place c.index-wires-place.result refl here c.index-wires-place.is in
    let rows = slice_get-map (λ (ws : Vec Wire). ws.items) wires place ∙ ap (option_map (λ (ws : Vec Wire). ws.items)) row in
    let is : IsNodeOf c.index-nodes-place.result c.index-wires-place.result.items c.in-Ok.node = subst (λ ws. IsNodeOf c.index-nodes-place.result ws c.in-Ok.node) c.deref.ensures.value c.in-Ok.ensures in
    let items = c.push_reserved.ensures.items in
    let room = before.room in
    let len = c.push_reserved.ensures.len in
    let cap = c.push_reserved.ensures.capacity in
    let space = before.capacity in
    record {
      opened = subst (λ xs. AreNodesWith (take (place + 1) nodes) (take (place + 1) (map (λ (ws : Vec Wire). ws.items) wires)) xs) (sym items)
          (subst (λ ns. AreNodesWith ns (take (place + 1) (map (λ (ws : Vec Wire). ws.items) wires)) (c.loop-place.opened.items ++ c.in-Ok.node ∷ [])) (sym (take_more nodes place c.index-nodes-place.result node))
          (subst (λ rs. AreNodesWith (take place nodes ++ c.index-nodes-place.result ∷ []) rs (c.loop-place.opened.items ++ c.in-Ok.node ∷ [])) (sym (take_more (map (λ (ws : Vec Wire). ws.items) wires) place c.index-wires-place.result.items rows))
          (nodes_more (take place nodes) (take place (map (λ (ws : Vec Wire). ws.items) wires)) c.loop-place.opened.items c.index-nodes-place.result c.index-wires-place.result.items c.in-Ok.node before.opened is)));
      leave = subst (AllByRecursion CanLeave) (sym items) (AllByRecursion-push CanLeave c.loop-place.opened.items c.in-Ok.node before.leave (can_leave c.index-nodes-place.result c.index-wires-place.result.items c.in-Ok.node is));
      room = omega (arith, room, len);
      capacity = omega (arith, space, cap);
    }
