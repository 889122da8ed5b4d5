use Rattle.std.proofs.Common.{◌≡◌, ℕ, ◌<◌, ◌+◌, ◌++◌, [], ◌∷◌, Some, List, length, ap, refl, sym, ◌∙◌, subst, arith, slice_get, length-append}
use Rattle.std.proofs.lemmas.Option.{slice_get_read}
use Rattle.csp_topology.specs.Plan.{PlainNodePlan}
use Rattle.csp_topology.specs.declared.opened.NodeBuffers.{NodeBuffers}
use Rattle.csp_world.proofs.OpeningLists.{each-push}
use Rattle.csp_world.proofs.Settled.{room_there}
use Rattle.csp_world.proofs.world.World.buffers.Goals as goal
use Rattle.csp_world.specs.SeenWorld.{SeenWorld}
use Rattle.csp_world.specs.Settling.{AreBuffersAt}

pub loop-place-preserved : goal.loop-place-preserved
loop-place-preserved c =
    let place = c.loop-place.place in
    let nodes = c.args.nodes.now in
    let decks = c.args.self.now.plain.decks in
    let regions = c.args.self.now.regions in
    let old = c.loop-place.all.items in
    let before = c.loop-place.invariant in
    let many = before.many in
    let low : place < length nodes = c.loop-place-test.true in
    let node : slice_get nodes place ≡ Some c.index-nodes-place.result = slice_get_read nodes (length nodes) place c.index-nodes-place.result refl low c.index-nodes-place.is in
    let b : NodeBuffers = record { region = c.token.result; count = c.from.result } in
    let items : c.push_reserved.new.self.items ≡ old ++ b ∷ [] = c.push_reserved.ensures.items in
    let long = ap (λ (bs : List NodeBuffers). length bs) items in
    let two = length-append old (b ∷ []) in
    let here : AreBuffersAt decks regions place b = record {
      region = ap (λ (v : SeenWorld). slice_get v.regions place) (sym c.self.view_is) ∙ c.token.ensures;
      count = room_there nodes decks place c.index-nodes-place.result c.requires.decks node ∙ ap Some (ap (λ (n : PlainNodePlan). n.buffers) (sym c.node.view_is) ∙ sym c.from.ensures);
    } in
    record {
      many = omega (arith, long, two, many);
      each = subst (λ (bs : List NodeBuffers). (k : ℕ) (x : NodeBuffers) → slice_get bs k ≡ Some x → AreBuffersAt decks regions k x) (sym items)
          (each-push (AreBuffersAt decks regions) old b before.each (subst (λ k. AreBuffersAt decks regions k b) (sym many) here));
      len = c.push_reserved.ensures.len ∙ ap (λ k. k + 1) before.len;
      room = c.push_reserved.ensures.capacity ∙ before.room;
    }
