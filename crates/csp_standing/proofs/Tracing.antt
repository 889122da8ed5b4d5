-- What the posts have in hand tells what their logs say, from what their leaders put into the pools at the opening.
use Rattle.std.proofs.Common.{◌≡◌, ◌≢◌, ◌+◌, ◌==◌, ℕ, zero, suc, Bool, true, false, List, [], ◌∷◌, Option, None, Some, length, refl, sym, ap, ◌∙◌, subst, arith}
use Rattle.std.specs.Prelude.{if◌then◌else◌, slice_get}
use Rattle.std.specs.List.{range_with_len, sum_by}
use Rattle.std.proofs.lemmas.Bool.{eq-eqb, eqb-true}
use Rattle.std.proofs.lemmas.List.FromFn.{length-range_with_len}
use Rattle.std.proofs.lemmas.List.Sums.{sum_by-cons}
use Rattle.std.proofs.lemmas.Option.{get_or_from_slice_get, same_Some}
use Rattle.csp_ends.specs.Ends.{PlainHome, PlainNodeQueues}
use Rattle.csp_ends.specs.Moves.{room_among}
use Rattle.csp_ends.specs.Traced.{AreTraced}
use Rattle.csp_posts.specs.Between.{AreAllTraced, is_home, over_home}
use Rattle.csp_posts.specs.Posts.{PlainPost}
use Rattle.csp_log.specs.Who.{node_of}
use Rattle.csp_log.specs.declared.who.Who.{Who}
use Rattle.csp_scene.specs.Links.{no_node, node_at}
use Rattle.csp_scene.specs.Scene.{PlainNode, PlainScene}
use Rattle.csp_standing.proofs.Leaders.{Apart, HasHub, Hubs, Led, hub_at, hub_leads, hub_node, hub_place_of, node_in}
use Rattle.csp_standing.proofs.Places.{all_from, post_at}
use Rattle.csp_standing.specs.Network.{AreNodesOf, IsNetworkOf, PlainNetwork, opened_at, opened_in}
use Rattle.csp_topology.specs.Lanes.{PlainLane, leader_of}
use Rattle.csp_topology.specs.Parties.{parties_of}
use Rattle.csp_topology.specs.Wired.{Stands, is_leader}
use Rattle.csp_topology.specs.Wires.{wires_of}

-- nothing adds up to nothing
all_zero : {X : Type 0} (f : X → ℕ) (xs : List X) → ((k : ℕ) (x : X) → slice_get xs k ≡ Some x → f x ≡ 0) → sum_by f xs ≡ 0
all_zero f [] none = refl
all_zero f (x ∷ xs) none = sum_by-cons f x xs ∙ (λ i. none 0 x refl i + all_zero f xs (λ k. none (suc k)) i)

-- and one number and nothing else to that number
just_one : {X : Type 0} (f : X → ℕ) (xs : List X) (at : ℕ) (y : X) → slice_get xs at ≡ Some y → ((k : ℕ) (x : X) → slice_get xs k ≡ Some x → k ≢ at → f x ≡ 0) → sum_by f xs ≡ f y
just_one f [] at y e none = absurd cc
just_one f (x ∷ xs) zero y e none =
    sum_by-cons f x xs ∙ (λ i. f (same_Some x y e i) + all_zero f xs (λ k z g. none (suc k) z g (λ c. absurd cc)) i) ∙ omega arith
just_one f (x ∷ xs) (suc at) y e none =
    sum_by-cons f x xs ∙ (λ i. none 0 x refl (λ c. absurd cc) i + just_one f xs at y e (λ k z g apart. none (suc k) z g (λ c. apart (omega (arith, c)))) i) ∙ omega arith

-- what holds of the queues of a node
pub queues_at : (ms : List PlainNode) (wires : List (List PlainLane)) (qs : List PlainNodeQueues) (k : ℕ) (m : PlainNode) → AreNodesOf ms wires qs → slice_get ms k ≡ Some m → room_among (slice_get qs k) ≡ m.buffers
queues_at (x ∷ ms) (w ∷ wires) (q ∷ qs) zero m h e = h.0.pool ∙ ap (λ (n : PlainNode). n.buffers) (same_Some x m e)
queues_at (x ∷ ms) (w ∷ wires) (q ∷ qs) (suc k) m h e = queues_at ms wires qs k m h.1 e
queues_at [] wires qs k m h e = absurd cc
queues_at (x ∷ ms) [] qs k m h e = absurd h
queues_at (x ∷ ms) (w ∷ wires) [] k m h e = absurd h

-- past the last node there is none
queues_past : (ms : List PlainNode) (wires : List (List PlainLane)) (qs : List PlainNodeQueues) (k : ℕ) → AreNodesOf ms wires qs → slice_get ms k ≡ None → room_among (slice_get qs k) ≡ 0
queues_past [] [] [] k h e = refl
queues_past (x ∷ ms) (w ∷ wires) (q ∷ qs) zero h e = absurd cc
queues_past (x ∷ ms) (w ∷ wires) (q ∷ qs) (suc k) h e = queues_past ms wires qs k h.1 e
queues_past [] (w ∷ wires) qs k h e = absurd h
queues_past [] [] (q ∷ qs) k h e = absurd h
queues_past (x ∷ ms) [] qs k h e = absurd h
queues_past (x ∷ ms) (w ∷ wires) [] k h e = absurd h

-- who doesn't lead put nothing in
no_leader : (scene : PlainScene) (w : Who) (node : Option ℕ) → is_leader w ≡ false → length (opened_at scene w node) ≡ 0
no_leader scene w None e = refl
no_leader scene w (Some node) e = ap (λ b. length (if b then range_with_len 0 (node_at scene.nodes node).buffers else [])) e

-- who leads put in all
all_opened : (scene : PlainScene) (w : Who) (node : ℕ) (m : PlainNode) → is_leader w ≡ true → node_of w ≡ Some node → slice_get scene.nodes node ≡ Some m → length (opened_in scene w) ≡ m.buffers
all_opened scene w node m lead at there =
    ap (λ o. length (opened_at scene w o)) at
    ∙ ap (λ b. length (if b then range_with_len 0 (node_at scene.nodes node).buffers else [])) lead
    ∙ length-range_with_len 0 (node_at scene.nodes node).buffers
    ∙ ap (λ (n : PlainNode). n.buffers) (get_or_from_slice_get scene.nodes node m no_node there)

-- a number that only a party of this node has, and that is nothing for it, is nothing
if_home : (node : ℕ) (home : Option PlainHome) (n : ℕ) → ((h : PlainHome) → home ≡ Some h → h.node ≡ node → n ≡ 0) → (if is_home node home then n else 0) ≡ 0
if_home node None n none = refl
if_home node (Some h) n none = by (h.node == node) refl where
  by : (b : Bool) → (h.node == node) ≡ b → (if b then n else 0) ≡ 0
  by true e = none h refl (eqb-true h.node node e)
  by false e = refl

at_home : (node : ℕ) (home : Option PlainHome) (h : PlainHome) (n : ℕ) → home ≡ Some h → h.node ≡ node → (if is_home node home then n else 0) ≡ n
at_home node home h n its at = ap (λ o. if is_home node o then n else 0) its ∙ ap (λ b. if b then n else 0) (eq-eqb h.node node at)

-- what all parties of a node put in at the opening is what its pool has room for
whole_node : Led → Apart → (scene : PlainScene) (n : PlainNetwork) (posts : List PlainPost) → IsNetworkOf scene n posts → (node : ℕ) (m : PlainNode) → slice_get scene.nodes node ≡ Some m → Stands scene (leader_of node m.addr)
    → over_home node (λ s. length (opened_in scene s.who)) posts ≡ m.buffers
whole_node led apart scene n posts net node m there stands =
    just_one (λ (s : PlainPost). if is_home node s.ends.home then length (opened_in scene s.who) else 0) posts hub.at hub.post hub.there others
    ∙ at_home node hub.post.ends.home hub.home (length (opened_in scene hub.post.who)) hub.its hub.node
    ∙ ap (λ w. length (opened_in scene w)) hub.who
    ∙ all_opened scene (leader_of node m.addr) node m (hub_leads node m.addr) (hub_node node m.addr) there where
      hub : HasHub posts (leader_of node m.addr) node
      hub = hub_at scene n posts net node m.addr stands

      others : (k : ℕ) (s : PlainPost) → slice_get posts k ≡ Some s → k ≢ hub.at → (if is_home node s.ends.home then length (opened_in scene s.who) else 0) ≡ 0
      others k s at other = if_home node s.ends.home (length (opened_in scene s.who)) (λ h its here.
          let x = post_at scene n (parties_of scene) posts k s net.parties at in
          let l = led scene k x.party x.there node (node_in scene n x.party s h x.post its ∙ ap Some here) in
          let same : l.n ≡ m = same_Some l.n m (sym l.there ∙ there) in
          let place : l.hub.place ≡ stands.place = apart scene l.hub.place stands.place l.hub.party stands.party l.hub.at stands.at (l.hub.named ∙ ap (λ (p : PlainNode). leader_of node p.addr) same ∙ sym stands.named) in
          by (is_leader s.who) refl (λ lead. other (sym (l.alone (ap is_leader (sym x.post.who) ∙ lead)) ∙ place ∙ sym (hub_place_of scene n posts net node m.addr stands)))) where
            by : (b : Bool) → is_leader s.who ≡ b → (is_leader s.who ≡ true → ⊥) → length (opened_in scene s.who) ≡ 0
            by true e not = absurd (not e)
            by false e not = no_leader scene s.who (node_of s.who) e

-- and there is nothing where there is no node
no_node_there : Led → (scene : PlainScene) (n : PlainNetwork) (posts : List PlainPost) → IsNetworkOf scene n posts → (node : ℕ) → slice_get scene.nodes node ≡ None → over_home node (λ s. length (opened_in scene s.who)) posts ≡ 0
no_node_there led scene n posts net node none =
    all_zero (λ (s : PlainPost). if is_home node s.ends.home then length (opened_in scene s.who) else 0) posts (λ k s at.
    if_home node s.ends.home (length (opened_in scene s.who)) (λ h its here.
    let x = post_at scene n (parties_of scene) posts k s net.parties at in
    let l = led scene k x.party x.there node (node_in scene n x.party s h x.post its ∙ ap Some here) in
    absurd (some_none l.n (sym l.there ∙ none)))) where
      some_none : (m : PlainNode) → Some m ≡ None → ⊥
      some_none m e = absurd cc

pub all_traced : Led → Hubs → Apart → (scene : PlainScene) (n : PlainNetwork) (posts : List PlainPost) → IsNetworkOf scene n posts → AreAllTraced n.nodes (opened_in scene) posts
all_traced led hubs apart scene n posts net = record {
  each = all_from (λ (s : PlainPost). AreTraced (opened_in scene s.who) s.entries s.ends) posts (λ k s at.
      let x = post_at scene n (parties_of scene) posts k s net.parties at in
      subst (λ w. AreTraced (opened_in scene w) s.entries s.ends) (sym x.post.who) x.post.from.traced);
  whole = λ node. by node (slice_get scene.nodes node) refl;
} where
  by : (node : ℕ) (o : Option PlainNode) → slice_get scene.nodes node ≡ o → over_home node (λ s. length (opened_in scene s.who)) posts ≡ room_among (slice_get n.nodes node)
  by node (Some m) e = whole_node led apart scene n posts net node m e (hubs scene node m e) ∙ sym (queues_at scene.nodes (wires_of scene) n.nodes node m net.nodes e)
  by node None e = no_node_there led scene n posts net node e ∙ sym (queues_past scene.nodes (wires_of scene) n.nodes node net.nodes e)
