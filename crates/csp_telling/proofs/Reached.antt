-- All takes and puts have come to what each pass was told.
use Rattle.std.proofs.Common.{◌≡◌, ℕ, List, [], ◌∷◌, Option, None, Some, length, refl, sym, ◌∙◌, subst, slice_get, arith}
use Rattle.std.specs.Prelude.{IfSome, IsSomeAnd}
use Rattle.csp_ends.specs.Ends.{IsHomeOf, PlainHome, PlainNodeQueues}
use Rattle.csp_posts.specs.Posts.{PlainPost}
use Rattle.csp_record.specs.Record.{PlainRecord}
use Rattle.csp_scene.specs.Scene.{PlainNode, PlainScene}
use Rattle.csp_standing.proofs.Public.{post_at}
use Rattle.csp_standing.specs.Network.{AreNodesOf, IsNetworkOf, PlainNetwork}
use Rattle.csp_standing.specs.Shown.{AreReached}
use Rattle.csp_telling.proofs.Nodes.{there_too}
use Rattle.csp_telling.specs.Closed.{IsClosed}
use Rattle.csp_telling.specs.Remains.{AreLeftAt, PlainRemains}
use Rattle.csp_topology.specs.Lanes.{PlainLane}
use Rattle.csp_topology.specs.Parties.{parties_of}
use Rattle.csp_topology.specs.Wires.{wires_of}

-- a network has the queues of as many nodes as its scene has
same_count : (ms : List PlainNode) (wires : List (List PlainLane)) (qs : List PlainNodeQueues) → AreNodesOf ms wires qs → length qs ≡ length ms
same_count [] [] [] h = refl
same_count (m ∷ ms) (w ∷ wires) (q ∷ qs) h = omega (arith, same_count ms wires qs h.1)
same_count [] (w ∷ wires) qs h = absurd h
same_count [] [] (q ∷ qs) h = absurd h
same_count (m ∷ ms) [] qs h = absurd h
same_count (m ∷ ms) (w ∷ wires) [] h = absurd h

some_there : {X : Type 0} (P : X → Type 0) (o : Option X) → IsSomeAnd o P → (x : X) × (o ≡ Some x)
some_there P (Some x) h = (x, refl)
some_there P None h = absurd h

-- what was left where a post is
left_there : (scene : PlainScene) (n : PlainNetwork) (posts : List PlainPost) (r : PlainRecord) → IsNetworkOf scene n posts → IsClosed scene posts r
    → (i : ℕ) (s : PlainPost) (h : PlainHome) → slice_get posts i ≡ Some s → s.ends.home ≡ Some h → (m : PlainRemains) × AreLeftAt posts h.node m
left_there scene n posts r net closed i s h at its =
    let x = post_at scene n (parties_of scene) posts i s net.parties at in
    let home : IsHomeOf n.nodes h = subst (λ o. IfSome o (IsHomeOf n.nodes)) its x.post.from.of_it.home in
    let q : (z : PlainNodeQueues) × (slice_get n.nodes h.node ≡ Some z) = some_there _ (slice_get n.nodes h.node) home in
    let m : (z : PlainRemains) × (slice_get closed.all h.node ≡ Some z) = there_too n.nodes closed.all h.node q.0 (same_count scene.nodes (wires_of scene) n.nodes net.nodes ∙ sym closed.remains.nodes) q.1 in
    (m.0, closed.remains.each h.node m.0 m.1)

pub are_reached : (scene : PlainScene) (n : PlainNetwork) (posts : List PlainPost) (r : PlainRecord) → IsNetworkOf scene n posts → IsClosed scene posts r → AreReached posts
are_reached scene n posts r net closed = record {
  takes = λ i s h at its. (left_there scene n posts r net closed i s h at its).1.pool.takes i s h at its refl;
  puts = λ i s h at its. (left_there scene n posts r net closed i s h at its).1.pool.puts i s h at its refl;
  inboxes = λ i s h x p at its pass. ((left_there scene n posts r net closed i s h at its).1.inbox p).reached i s h x at its refl pass;
}
