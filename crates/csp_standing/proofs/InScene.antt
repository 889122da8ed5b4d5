-- The posts stand in their scene.
use Rattle.std.proofs.Common.{◌≡◌, ℕ, zero, suc, List, [], ◌∷◌, Option, None, Some, sym, ap, ◌∙◌, subst}
use Rattle.std.specs.List.{AllByRecursion}
use Rattle.std.specs.Prelude.{IfSome, IsSomeAnd, slice_get}
use Rattle.std.specs.Option.{option_map}
use Rattle.std.proofs.lemmas.Option.{same_Some}
use Rattle.csp_ends.specs.Ends.{IsHomeOf, PlainHome, PlainNodeQueues}
use Rattle.csp_inbox.specs.Passes as inbox
use Rattle.csp_pool.specs.PlainPool as pool
use Rattle.csp_posts.specs.Posts.{PlainPost}
use Rattle.csp_log.specs.Who.{node_of}
use Rattle.csp_log.specs.declared.who.Who.TheVariants as who
use Rattle.csp_scene.specs.Scene.{PlainNode, PlainScene}
use Rattle.csp_standing.proofs.Leaders.{Hubs, home_in, hub_at, pass_marked}
use Rattle.csp_standing.proofs.Places.{all_from, home_named, post_at}
use Rattle.csp_standing.proofs.Sides.{JoinsAll, all_wired}
use Rattle.csp_standing.proofs.Tracing.{queues_at}
use Rattle.csp_standing.specs.Network.{AreNodesOf, IsNetworkOf, PlainNetwork}
use Rattle.csp_standing.specs.Shown.{AreOfScene, HasPassAt, IsReadAt}
use Rattle.csp_topology.specs.Lanes.{PlainLane, leader_of}
use Rattle.csp_topology.specs.Parties.{parties_of}
use Rattle.csp_topology.specs.Wired.{IsWire}
use Rattle.csp_topology.specs.Wires.{lanes_of, wires_of}
use Rattle.csp_topology.specs.Writers.{mark_for}

-- a pass of the inbox of a node has the room of the scene's
room_of : (ms : List PlainNode) (wires : List (List PlainLane)) (qs : List PlainNodeQueues) (k : ℕ) (m : PlainNode) (p : inbox.PlainPass) → AreNodesOf ms wires qs → slice_get ms k ≡ Some m
    → IsSomeAnd (slice_get qs k) (λ q. inbox.IsPassOf q.inbox p) → p.role.room ≡ m.inbox
room_of (x ∷ ms) (w ∷ wires) (q ∷ qs) zero m p h e is = is.room ∙ h.0.inbox ∙ ap (λ (n : PlainNode). n.inbox) (same_Some x m e)
room_of (x ∷ ms) (w ∷ wires) (q ∷ qs) (suc k) m p h e is = room_of ms wires qs k m p h.1 e is
room_of [] wires qs k m p h e is = absurd cc
room_of (x ∷ ms) [] qs k m p h e is = absurd h
room_of (x ∷ ms) (w ∷ wires) [] k m p h e is = absurd h

pass_in : (nodes : List PlainNodeQueues) (h : PlainHome) (p : inbox.PlainPass) → h.inbox ≡ Some p → IsHomeOf nodes h → IsSomeAnd (slice_get nodes h.node) (λ q. inbox.IsPassOf q.inbox p)
pass_in nodes h p e is = by (slice_get nodes h.node) is where
  by : (o : Option PlainNodeQueues) → IsSomeAnd o (λ q. pool.IsPassOf q.pool h.pool × IfSome h.inbox (inbox.IsPassOf q.inbox)) → IsSomeAnd o (λ q. inbox.IsPassOf q.inbox p)
  by (Some q) both = subst (λ x. IfSome x (inbox.IsPassOf q.inbox)) e both.1
  by None both = both

-- a post's pass of the inbox of its node
its_pass : (scene : PlainScene) (n : PlainNetwork) (posts : List PlainPost) → IsNetworkOf scene n posts → (i : ℕ) (s : PlainPost) → slice_get posts i ≡ Some s → (h : PlainHome) → s.ends.home ≡ Some h
    → (p : inbox.PlainPass) → h.inbox ≡ Some p → (node : ℕ) (m : PlainNode) → h.node ≡ node → slice_get scene.nodes node ≡ Some m → p.role.room ≡ m.inbox
its_pass scene n posts net i s at h its p has node m here there =
    let x = post_at scene n (parties_of scene) posts i s net.parties at in
    room_of scene.nodes (wires_of scene) n.nodes node m p net.nodes there
    (subst (λ k. IsSomeAnd (slice_get n.nodes k) (λ q. inbox.IsPassOf q.inbox p)) here (pass_in n.nodes h p has (subst (λ o. IfSome o (IsHomeOf n.nodes)) its x.post.from.of_it.home)))

read_at : (scene : PlainScene) (n : PlainNetwork) (posts : List PlainPost) → IsNetworkOf scene n posts → Hubs → (node : ℕ) (m : PlainNode) → slice_get scene.nodes node ≡ Some m → IsReadAt posts (leader_of node m.addr) node m.inbox
read_at scene n posts net hubs node m there =
    let hub = hub_at scene n posts net node m.addr (hubs scene node m there) in
    record {
      at = hub.at;
      post = hub.post;
      there = hub.there;
      who = hub.who;
      has = record { home = hub.home; there = hub.its; node = hub.node; pass = hub.pass; inbox = hub.inbox; marked = hub.mark; roomy = its_pass scene n posts net hub.at hub.post hub.there hub.home hub.its hub.pass hub.inbox node m hub.node there };
      reads = hub.reads;
    }

iface_at : (scene : PlainScene) (n : PlainNetwork) (posts : List PlainPost) → IsNetworkOf scene n posts → (node : ℕ) (m : PlainNode) → slice_get scene.nodes node ≡ Some m → (i k : ℕ) (s : PlainPost) → slice_get posts i ≡ Some s → s.who ≡ who.Iface node k
    → HasPassAt s node k m.inbox
iface_at scene n posts net node m there i k s at is =
    let x = post_at scene n (parties_of scene) posts i s net.parties at in
    let named : x.party.who ≡ who.Iface node k = sym x.post.who ∙ is in
    let home = home_named s.ends.home node (x.post.home.node ∙ ap node_of named) in
    let passes = home_in scene n x.party s home.0 x.post home.1 in
    let pass = pass_marked home.0.inbox k (passes.mark ∙ ap mark_for named) in
    record { home = home.0; there = home.1; node = home.2; pass = pass.0; inbox = pass.1; marked = pass.2; roomy = its_pass scene n posts net i s at home.0 home.1 pass.0 pass.1 node m home.2 there }

pub of_scene : (scene : PlainScene) (n : PlainNetwork) (posts : List PlainPost) → IsNetworkOf scene n posts → Hubs → JoinsAll scene → AllByRecursion (IsWire scene) (lanes_of scene) → AreOfScene scene n.nodes posts
of_scene scene n posts net hubs joins wires = record {
  lanes = all_wired scene n posts net joins (lanes_of scene) wires;
  hubs = read_at scene n posts net hubs;
  ifaces = iface_at scene n posts net;
  rooms = λ node m there. queues_at scene.nodes (wires_of scene) n.nodes node m net.nodes there;
  homes = all_from (λ (s : PlainPost). option_map (λ (h : PlainHome). h.node) s.ends.home ≡ node_of s.who) posts (λ k s at.
      let x = post_at scene n (parties_of scene) posts k s net.parties at in
      x.post.home.node ∙ ap node_of (sym x.post.who));
}
