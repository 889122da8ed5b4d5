-- What was left at each node of a scene.
use Rattle.std.proofs.Common.{◌≡◌, ℕ, zero, suc, List, [], ◌∷◌, ◌++◌, Some, length, map, refl, sym, ap, ◌∙◌, arith, slice_get}
use Rattle.std.specs.List.{AllByRecursion}
use Rattle.std.specs.Option.{option_map}
use Rattle.std.proofs.lemmas.Option.{same_Some, slice_get-map}
use Rattle.csp_consistent.specs.Queues.{UseTheirQueues}
use Rattle.csp_deck.specs.Carried.{places_of}
use Rattle.csp_lists.specs.Order.{places_in}
use Rattle.csp_log.specs.declared.places.Place.TheVariants as place
use Rattle.csp_log.specs.declared.places.QueueId.TheVariants as queue
use Rattle.csp_posts.specs.Posts.{PlainPost}
use Rattle.csp_record.specs.Record.{PlainRecord}
use Rattle.csp_scene.specs.Links.{links_at}
use Rattle.csp_scene.specs.Scene.{PlainNode, PlainScene}
use Rattle.csp_standing.specs.Network.{IsNetworkOf, PlainNetwork}
use Rattle.csp_telling.proofs.PlacesApart.{AreNamedApart, named_apart}
use Rattle.csp_telling.specs.Closed.{IsClosed}
use Rattle.csp_telling.specs.Remains.{AreLeftAt, AreRemains, PlainRemains}
use Rattle.csp_topology.specs.Lanes.{PlainLane, leader_of}
use Rattle.csp_topology.specs.Parties.{PlainOpening, parties_of}
use Rattle.csp_topology.specs.Wired.{IsWire, Stands}
use Rattle.csp_topology.specs.Wires.{lanes_of, wires_of}

-- what stands in one of two lists of one length stands in the other
pub there_too : {X Y : Type 0} (xs : List X) (ys : List Y) (k : ℕ) (x : X) → length xs ≡ length ys → slice_get xs k ≡ Some x → (y : Y) × (slice_get ys k ≡ Some y)
there_too [] ys k x e at = absurd cc
there_too (z ∷ xs) [] k x e at = absurd cc
there_too (z ∷ xs) (y ∷ ys) zero x e at = (y, refl)
there_too (z ∷ xs) (y ∷ ys) (suc k) x e at = there_too xs ys k x (omega (arith, e)) at

-- what csp_topology says of the order of lanes, and of how many nodes have some
abbrev pub Ordered : PlainScene → Type 0
Ordered scene = (node : ℕ) (n : PlainNode) (wires : List PlainLane) → slice_get scene.nodes node ≡ Some n → slice_get (wires_of scene) node ≡ Some wires
    → map (λ l. place.Lane l.queue) wires ++ places_of queue.Inbox ≡ places_in (record { ifaces = length (links_at node scene.links); apps = length n.apps })

abbrev pub Counted : PlainScene → Type 0
Counted scene = length (wires_of scene) ≡ length scene.nodes

-- what was left at a node, whose lanes are these
pub record HasRemains (posts : List PlainPost) (all : List PlainRemains) (node : ℕ) (lanes : List PlainLane) : Type 0 where
  pub remains : PlainRemains
  pub there : slice_get all node ≡ Some remains
  pub left : AreLeftAt posts node remains
  pub many : length remains.lanes ≡ length lanes

pub remains_at : (scene : PlainScene) (posts : List PlainPost) (all : List PlainRemains) → Counted scene → AreRemains scene posts all
    → (node : ℕ) (lanes : List PlainLane) → slice_get (wires_of scene) node ≡ Some lanes → HasRemains posts all node lanes
remains_at scene posts all counted are node lanes at =
    let m = there_too (wires_of scene) all node lanes (counted ∙ sym are.nodes) at in
    record {
      remains = m.0;
      there = m.1;
      left = are.each node m.0 m.1;
      many = same_Some (length m.0.lanes) (length lanes)
          (ap (option_map (λ (x : PlainRemains). length x.lanes)) (sym m.1)
          ∙ sym (slice_get-map (λ (x : PlainRemains). length x.lanes) all node)
          ∙ ap (λ (ns : List ℕ). slice_get ns node) are.lanes
          ∙ slice_get-map (λ (ls : List PlainLane). length ls) (wires_of scene) node
          ∙ ap (option_map (λ (ls : List PlainLane). length ls)) at);
    }

-- a run that has ended, with its network and its record; and what csp_topology says of the lanes of its scene
pub record IsEnded (scene : PlainScene) (n : PlainNetwork) (posts : List PlainPost) (r : PlainRecord) : Type 0 where
  pub net : IsNetworkOf scene n posts
  pub closed : IsClosed scene posts r
  pub counted : Counted scene
  pub ordered : Ordered scene

-- what csp_topology says besides of the scene and its parties, and csp_consistent of their logs
pub record IsKnown (scene : PlainScene) (r : PlainRecord) : Type 0 where
  pub wires : AllByRecursion (IsWire scene) (lanes_of scene)
  pub hubs : (node : ℕ) (c : PlainNode) → slice_get scene.nodes node ≡ Some c → Stands scene (leader_of node c.addr)
  pub apart : (i j : ℕ) (o p : PlainOpening) → slice_get (parties_of scene) i ≡ Some o → slice_get (parties_of scene) j ≡ Some p → o.who ≡ p.who → i ≡ j
  pub uses : UseTheirQueues r.parties

-- what was left at a node, and its lanes
pub record IsAtNode (scene : PlainScene) (posts : List PlainPost) (all : List PlainRemains) (node : ℕ) : Type 0 where
  pub lanes : List PlainLane
  pub at : slice_get (wires_of scene) node ≡ Some lanes
  pub has : HasRemains posts all node lanes
  pub names : AreNamedApart lanes

-- of each node of a scene
pub at_scene : (scene : PlainScene) (n : PlainNetwork) (posts : List PlainPost) (r : PlainRecord) (x : IsEnded scene n posts r) → (node : ℕ) (c : PlainNode) → slice_get scene.nodes node ≡ Some c → IsAtNode scene posts x.closed.all node
at_scene scene n posts r x node c there =
    let ls = there_too scene.nodes (wires_of scene) node c (sym x.counted) there in
    record {
      lanes = ls.0;
      at = ls.1;
      has = remains_at scene posts x.closed.all x.counted x.closed.remains node ls.0 ls.1;
      names = named_apart (record { ifaces = length (links_at node scene.links); apps = length c.apps }) ls.0 (x.ordered node c ls.0 there ls.1);
    }
