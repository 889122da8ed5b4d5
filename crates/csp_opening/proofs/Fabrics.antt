-- The nodes and the parties that were opened are the network of their scene.
use Rattle.std.proofs.Common.{◌≡◌, ◌+◌, ◌<◌, ◌≤◌, ◌⊎◌, inl, inr, ℕ, zero, suc, Bool, true, false, true≢false, List, [], ◌∷◌, Option, None, Some, length, map, refl, sym, ap, ◌∙◌, subst, arith}
use Rattle.std.specs.Global.{Vec}
use Rattle.std.specs.Prelude.{IfSome, slice_get, vec_capacity}
use Rattle.std.specs.List.{AllByRecursion, AllZip, count_by, sum_by}
use Rattle.std.specs.Option.{option_map}
use Rattle.std.proofs.lemmas.List.{length-map}
use Rattle.std.proofs.lemmas.List.Sums.{sum-map, sum_by-cons}
use Rattle.std.proofs.lemmas.Option.{same_Some, slice_get-map}
use Rattle.std.proofs.lemmas.Slice.Zip.{AllZip-long}
use Rattle.csp_ends.specs.Ends.{PlainHome}
use Rattle.csp_inbox.specs.Marks.{is_in}
use Rattle.csp_inbox.specs.Passes.{PlainPass}
use Rattle.csp_lane.specs.Ends as lane
use Rattle.csp_lists.specs.PlainDeck.{lane_room}
use Rattle.csp_opening.proofs.Counts.{at_home, hub_at, of_node, one_hub}
use Rattle.csp_opening.proofs.Leaving.{as_many}
use Rattle.csp_opening.proofs.Named.{IsNamedIn, IsPairRow}
use Rattle.csp_opening.proofs.NewHomes.{node_is, node_there}
use Rattle.csp_opening.proofs.Ordered.{InOrder, plain_posts, posts_plain}
use Rattle.csp_opening.proofs.Parties.{IsPartyNew, Laws, is_post, its_ends, its_home, network, party_new}
use Rattle.csp_opening.proofs.Passing.{HasMark, NamedApart, homes_same, parts_at_node}
use Rattle.csp_opening.proofs.Whos.{IsThere, node_low, parties_there}
use Rattle.csp_opening.proofs.Zipped.{row_rooms}
use Rattle.csp_opening.specs.Opened.{AreNodesWith, IsNodeOf, ends_in, lead_in, queues_in, region_in}
use Rattle.csp_opening.specs.Parted.{lead_home, part_home, part_homes, parts_left}
use Rattle.csp_opening.specs.Posted.{post_with}
use Rattle.csp_opening.specs.Unposted.{IsUnposted, count_at, count_or, unposted_name}
use Rattle.csp_opening.specs.Whole.{posts_of, queue_count, rooms_in, store_in, whos}
use Rattle.csp_opening.specs.declared.nodes.Node.{Node}
use Rattle.csp_opening.specs.declared.unposted.Unposted.{Unposted}
use Rattle.csp_ending.specs.Notes.{PlainNotes}
use Rattle.csp_pool.specs.declared.hand.Hand.{Hand}
use Rattle.csp_posts.specs.Books.{IsFresh}
use Rattle.csp_posts.specs.Posts.{PlainPost}
use Rattle.csp_posts.specs.Seen.{SeenPost}
use Rattle.csp_log.specs.Who.{node_of}
use Rattle.csp_log.specs.declared.who.Who.{Who}
use Rattle.csp_log.specs.declared.who.Who.TheVariants as who
use Rattle.csp_scene.specs.Links.{links_at}
use Rattle.csp_scene.specs.Scene.{PlainLink, PlainNode, PlainScene}
use Rattle.csp_standing.proofs.Public.{all_at}
use Rattle.csp_standing.specs.Fabrics.{AreRoomsOf, AreStoresOf, CanNote, IsFabricOf, buffers_at, network_of}
use Rattle.csp_standing.specs.Network.{AreNodesOf, ArePostsOf, IsNetworkOf, IsPostOf, IsShared}
use Rattle.csp_standing.specs.declared.fabric.Fabric.{Fabric}
use Rattle.csp_standing.specs.declared.fabric.NodeStore.{NodeStore}
use Rattle.csp_topology.proofs.Public.{plans_count}
use Rattle.csp_topology.specs.Lanes.{PlainLane}
use Rattle.csp_topology.specs.Parties.{PlainOpening, parties_of}
use Rattle.csp_topology.specs.Plan.{PlainNodePlan, plan_of, plans_from}
use Rattle.csp_topology.specs.Wires.{wires_of}
use Rattle.csp_topology.specs.Wiring.{AreWires, IsWireOf}
use Rattle.csp_topology.specs.declared.wire.Wire.{Wire}
use Rattle.csp_topology.specs.Wired.{is_leader}

-- what holds of no node, and of one more with its lanes, holds of all
row_by_row : (scene : PlainScene) (Q : List PlainNode → List (List PlainLane) → List Node → Type 0) → Q [] [] []
    → ((n : PlainNode) (links : List PlainLink) (row : List PlainLane) (ws : List Wire) (x : Node) (nodes : List PlainNode) (rows : List (List PlainLane)) (xs : List Node) → IsNodeOf (plan_of n links) ws x → AllZip (IsWireOf scene) row ws → Q nodes rows xs
    → Q (n ∷ nodes) (row ∷ rows) (x ∷ xs))
    → (place : ℕ) (nodes : List PlainNode) (rows : List (List PlainLane)) (wires : List (List Wire)) (xs : List Node) → AreNodesWith (plans_from place nodes scene.links) wires xs → AllZip (AllZip (IsWireOf scene)) rows wires → Q nodes rows xs
row_by_row scene Q none more place [] [] [] [] h z = none
row_by_row scene Q none more place (n ∷ nodes) (row ∷ rows) (ws ∷ wires) (x ∷ xs) h z = more n (links_at place scene.links) row ws x nodes rows xs h.0 z.0 (row_by_row scene Q none more (place + 1) nodes rows wires xs h.1 z.1)
row_by_row scene Q none more place [] (row ∷ rows) [] xs h z = absurd z
row_by_row scene Q none more place [] rows (ws ∷ wires) xs h z = absurd h
row_by_row scene Q none more place [] [] [] (x ∷ xs) h z = absurd h
row_by_row scene Q none more place (n ∷ nodes) rows [] xs h z = absurd h
row_by_row scene Q none more place (n ∷ nodes) rows (ws ∷ wires) [] h z = absurd h
row_by_row scene Q none more place (n ∷ nodes) [] (ws ∷ wires) (x ∷ xs) h z = absurd z

-- the queues of the nodes are those of the scene
nodes_of : (scene : PlainScene) (place : ℕ) (nodes : List PlainNode) (rows : List (List PlainLane)) (wires : List (List Wire)) (xs : List Node) → AreNodesWith (plans_from place nodes scene.links) wires xs → AllZip (AllZip (IsWireOf scene)) rows wires
    → AreNodesOf nodes rows (map queues_in xs)
nodes_of scene = row_by_row scene (λ nodes rows xs. AreNodesOf nodes rows (map queues_in xs)) tt (λ n links row ws x nodes rows xs is z rest.
    (record { pool = is.base.capacity ∙ is.count; inbox = is.inbox; lanes = is.lanes.rooms ∙ sym (row_rooms scene row ws z) }, rest))

-- the room in the lanes of a row
row_sum : (scene : PlainScene) (row : List PlainLane) (ws : List Wire) → AllZip (IsWireOf scene) row ws → sum_by (λ (l : PlainLane). lane_room l.queue) row ≡ sum_by (λ (w : Wire). w.room) ws
row_sum scene row ws z = sym (sum-map (λ (l : PlainLane). lane_room l.queue) row) ∙ ap (sum_by (λ (k : ℕ). k)) (row_rooms scene row ws z) ∙ sum-map (λ (w : Wire). w.room) ws

stores_of : (scene : PlainScene) (place : ℕ) (nodes : List PlainNode) (rows : List (List PlainLane)) (wires : List (List Wire)) (xs : List Node) → AreNodesWith (plans_from place nodes scene.links) wires xs → AllZip (AllZip (IsWireOf scene)) rows wires
    → AreStoresOf nodes rows (map store_in xs)
stores_of scene = row_by_row scene (λ nodes rows xs. AreStoresOf nodes rows (map store_in xs)) tt (λ n links row ws x nodes rows xs is z rest. (
  record {
    count = is.count;
    none = is.base.none;
    room = (let room = is.room in let same = row_sum scene row ws z in omega (arith, room, same));
    unnoted = is.unnoted;
    numbers = (let many = is.numbers in omega (arith, many));
  },
  rest,
))

rooms_of : (scene : PlainScene) (place : ℕ) (nodes : List PlainNode) (rows : List (List PlainLane)) (wires : List (List Wire)) (xs : List Node) → AreNodesWith (plans_from place nodes scene.links) wires xs → AllZip (AllZip (IsWireOf scene)) rows wires
    → AreRoomsOf nodes rows (map rooms_in xs)
rooms_of scene = row_by_row scene (λ nodes rows xs. AreRoomsOf nodes rows (map rooms_in xs)) tt (λ n links row ws x nodes rows xs is z rest. (record { inbox = is.left; lanes = is.lanes.spare ∙ sym (row_rooms scene row ws z) }, rest))

-- as many queues as a record speaks of
queues_counted : (scene : PlainScene) (rows : List (List PlainLane)) (wires : List (Vec Wire)) → AllZip (AllZip (IsWireOf scene)) rows (map (λ (ws : Vec Wire). ws.items) wires)
    → sum_by (λ (lanes : List PlainLane). length lanes + 4) rows ≡ queue_count wires
queues_counted scene [] [] z = refl
queues_counted scene (row ∷ rows) (ws ∷ wires) z =
    let a = sum_by-cons (λ (lanes : List PlainLane). length lanes + 4) row rows in
    let b = sum_by-cons (λ (v : Vec Wire). length v.items + 4) ws wires in
    let c = AllZip-long (IsWireOf scene) row ws.items z.0 in
    let d = queues_counted scene rows wires z.1 in
    omega (arith, a, b, c, d)
queues_counted scene [] (ws ∷ wires) z = absurd z
queues_counted scene (row ∷ rows) [] z = absurd z

-- the pairs of each node are of the lanes of its row
lanes_long : (n : PlainNodePlan) (ws : List Wire) (x : Node) → IsNodeOf n ws x → length x.lanes.lanes.items ≡ length ws
lanes_long n ws x is = sym (length-map x.lanes.lanes.items (λ (l : lane.PlainLane). l.room)) ∙ ap (λ (ks : List ℕ). length ks) is.lanes.rooms ∙ length-map ws (λ (w : Wire). w.room)

row_named : (scene : PlainScene) (row : List PlainLane) (ws : List Wire) → AllZip (IsWireOf scene) row ws → AllZip (IsNamedIn (map (λ (o : PlainOpening). o.who) (parties_of scene))) row ws
row_named scene [] [] z = tt
row_named scene (l ∷ row) (w ∷ ws) z =
    (record { carries = z.0.carries; from = z.0.from.party; from_queue = z.0.from.called; to = z.0.to.party; to_queue = z.0.to.called }, row_named scene row ws z.1)
row_named scene [] (w ∷ ws) z = absurd z
row_named scene (l ∷ row) [] z = absurd z

pub pair_rows : (scene : PlainScene) (place : ℕ) (nodes : List PlainNode) (rows : List (List PlainLane)) (wires : List (List Wire)) (xs : List Node) → AreNodesWith (plans_from place nodes scene.links) wires xs → AllZip (AllZip (IsWireOf scene)) rows wires
    → AllZip (IsPairRow (map (λ (o : PlainOpening). o.who) (parties_of scene))) rows (map ends_in xs)
pair_rows scene = row_by_row scene (λ nodes rows xs. AllZip (IsPairRow (map (λ (o : PlainOpening). o.who) (parties_of scene))) rows (map ends_in xs)) tt (λ n links row ws x nodes rows xs is z rest. (
  record { region = region_in x; wires = ws; lanes = x.lanes.lanes.items; is = is.lanes.ends; named = row_named scene row ws z; long = lanes_long (plan_of n links) ws x is },
  rest,
))

-- parties as posts, from this place on, with what each has in hand
abbrev pub new_posts : List Node → List Who → ℕ → List Unposted → List SeenPost
new_posts xs ws p [] = []
new_posts xs ws p (s ∷ unposted) = post_with s (its_ends xs ws p s.who) ∷ new_posts xs ws (p + 1) unposted

are_new : (xs : List Node) (ws : List Who) (p : ℕ) (unposted : List Unposted) → plain_posts p (map ends_in xs) (parts_left (map lead_in xs) ws) unposted (map (part_home (map lead_in xs)) (whos unposted)) ≡ new_posts xs ws p unposted
are_new xs ws p [] = refl
are_new xs ws p (s ∷ unposted) = ap (λ ps. post_with s (its_ends xs ws p s.who) ∷ ps) (are_new xs ws (p + 1) unposted)

pub posts_are : (xs : List Node) (unposted : List Unposted) → InOrder 0 (whos unposted) → posts_of xs unposted ≡ new_posts xs (whos unposted) 0 unposted
posts_are xs unposted order =
    posts_plain (map ends_in xs) (parts_left (map lead_in xs) (whos unposted)) unposted (part_homes (map lead_in xs) (whos unposted)) order
    ∙ ap (plain_posts 0 (map ends_in xs) (parts_left (map lead_in xs) (whos unposted)) unposted) (homes_same (map lead_in xs) (map lead_in xs) (whos unposted) refl)
    ∙ are_new xs (whos unposted) 0 unposted

-- nodes and parties that were opened for a scene
pub record AreOpened (scene : PlainScene) (wires : List (List Wire)) (xs : List Node) (unposted : List Unposted) : Type 0 where
  pub laws : Laws scene
  pub nodes : AreNodesWith (plans_from 0 scene.nodes scene.links) wires xs
  pub rows : AllZip (AllZip (IsWireOf scene)) (wires_of scene) wires
  pub names : map unposted_name unposted ≡ parties_of scene
  pub each : AllByRecursion (IsUnposted xs) unposted
  pub apart : NamedApart (map (λ (o : PlainOpening). o.who) (parties_of scene))

whos_named : (unposted : List Unposted) → whos unposted ≡ map (λ (o : PlainOpening). o.who) (map unposted_name unposted)
whos_named [] = refl
whos_named (s ∷ unposted) = ap (λ ws. s.who ∷ ws) (whos_named unposted)

pub whos_are : (scene : PlainScene) (unposted : List Unposted) → map unposted_name unposted ≡ parties_of scene → whos unposted ≡ map (λ (o : PlainOpening). o.who) (parties_of scene)
whos_are scene unposted e = whos_named unposted ∙ ap (map (λ (o : PlainOpening). o.who)) e

opening_at : (scene : PlainScene) (unposted : List Unposted) (k : ℕ) (t : Unposted) → map unposted_name unposted ≡ parties_of scene → slice_get unposted k ≡ Some t → slice_get (parties_of scene) k ≡ Some (unposted_name t)
opening_at scene unposted k t e at = ap (λ os. slice_get os k) (sym e) ∙ slice_get-map unposted_name unposted k ∙ ap (option_map unposted_name) at

pub its_new : (scene : PlainScene) (wires : List (List Wire)) (xs : List Node) (unposted : List Unposted) (k : ℕ) (t : Unposted) → AreOpened scene wires xs unposted → slice_get unposted k ≡ Some t → IsPartyNew scene xs (whos unposted) k t.who
its_new scene wires xs unposted k t is at =
    let o = opening_at scene unposted k t is.names at in
    party_new scene wires xs (whos unposted) k t.who is.laws is.nodes is.rows (pair_rows scene 0 scene.nodes (wires_of scene) wires xs is.nodes is.rows) is.apart
    (slice_get-map (λ (z : PlainOpening). z.who) (parties_of scene) k ∙ ap (option_map (λ (z : PlainOpening). z.who)) o)
    (node_low (length scene.nodes) scene.links t.who (all_at (λ (z : PlainOpening). IsThere (length scene.nodes) scene.links z.who) (parties_of scene) k (unposted_name t) (parties_there scene) o))

-- what holds of each party as a post
all_posts : (P : SeenPost → Type 0) (xs : List Node) (ws : List Who) (p : ℕ) (unposted : List Unposted) → ((k j : ℕ) (t : Unposted) → slice_get unposted k ≡ Some t → j ≡ p + k → P (post_with t (its_ends xs ws j t.who)))
    → AllByRecursion P (new_posts xs ws p unposted)
all_posts P xs ws p [] h = tt
all_posts P xs ws p (s ∷ unposted) h = (h 0 p s refl (omega arith), all_posts P xs ws (p + 1) unposted (λ k j t e same. h (suc k) j t e (omega (arith, same))))

abbrev tail : {A : Type 0} → List A → List A
tail [] = []
tail (x ∷ xs) = xs

posts_from_here : (scene : PlainScene) (xs : List Node) (ws : List Who) (p : ℕ) (os : List PlainOpening) (unposted : List Unposted) → map unposted_name unposted ≡ os
    → ((k j : ℕ) (t : Unposted) → slice_get unposted k ≡ Some t → j ≡ p + k → IsPostOf scene (network xs) (unposted_name t) (post_with t (its_ends xs ws j t.who)).plain)
    → ArePostsOf scene (network xs) os (map (λ (s : SeenPost). s.plain) (new_posts xs ws p unposted))
posts_from_here scene xs ws p [] [] e h = tt
posts_from_here scene xs ws p (o ∷ os) (s ∷ unposted) e h = (
  subst (λ z. IsPostOf scene (network xs) z (post_with s (its_ends xs ws p s.who)).plain) (same_Some (unposted_name s) o (ap (λ zs. slice_get zs 0) e)) (h 0 p s refl (omega arith)),
  posts_from_here scene xs ws (p + 1) os unposted (ap tail e) (λ k j t at same. h (suc k) j t at (omega (arith, same))),
)
posts_from_here scene xs ws p [] (s ∷ unposted) e h = absurd cc
posts_from_here scene xs ws p (o ∷ os) [] e h = absurd cc

-- the node of each post's home is its party's
homes_at : (xs : List Node) (ws : List Who) (p : ℕ) (unposted : List Unposted) → ((k j : ℕ) (t : Unposted) → slice_get unposted k ≡ Some t → j ≡ p + k → option_map (λ (h : PlainHome). h.node) (its_home xs ws t.who) ≡ node_of t.who)
    → AllZip (λ (w : Who) (s : PlainPost). option_map (λ (h : PlainHome). h.node) s.ends.home ≡ node_of w) (whos unposted) (map (λ (s : SeenPost). s.plain) (new_posts xs ws p unposted))
homes_at xs ws p [] h = tt
homes_at xs ws p (s ∷ unposted) h = (h 0 p s refl (omega arith), homes_at xs ws (p + 1) unposted (λ k j t e same. h (suc k) j t e (omega (arith, same))))

-- the posts of a place
record IsPostAt (xs : List Node) (ws : List Who) (p : ℕ) (unposted : List Unposted) (k : ℕ) (s : PlainPost) : Type 0 where
  one : Unposted
  at : slice_get unposted k ≡ Some one
  is : s ≡ (post_with one (its_ends xs ws (p + k) one.who)).plain

post_at : (xs : List Node) (ws : List Who) (p : ℕ) (unposted : List Unposted) (k : ℕ) (s : PlainPost) → slice_get (map (λ (z : SeenPost). z.plain) (new_posts xs ws p unposted)) k ≡ Some s → IsPostAt xs ws p unposted k s
post_at xs ws p [] k s e = absurd cc
post_at xs ws p (t ∷ unposted) zero s e = record { one = t; at = refl; is = sym (same_Some _ s e) ∙ ap (λ j. (post_with t (its_ends xs ws j t.who)).plain) (omega arith) }
post_at xs ws p (t ∷ unposted) (suc k) s e =
    let r = post_at xs ws (p + 1) unposted k s e in
    record { one = r.one; at = r.at; is = r.is ∙ ap (λ j. (post_with r.one (its_ends xs ws j r.one.who)).plain) (omega arith) }

-- how the passes of a node are shared
hub_shared : (scene : PlainScene) (wires : List (List Wire)) (xs : List Node) (unposted : List Unposted) (m : ℕ) (h : PlainHome) → AreOpened scene wires xs unposted → m < length scene.nodes
    → option_map (lead_home m) (slice_get (parts_left (map lead_in xs) (whos unposted)) m) ≡ Some h → IsShared scene (map (λ (s : SeenPost). s.plain) (new_posts xs (whos unposted) 0 unposted)) h
unfolding parties_of
hub_shared scene wires xs unposted m h is low its =
    let t = node_there 0 scene.nodes scene.links wires xs is.nodes m low in
    let l = parts_at_node (map lead_in xs) (whos unposted) m (lead_in t.node) (slice_get-map lead_in xs m ∙ ap (option_map lead_in) t.at) in
    subst (IsShared scene (map (λ (s : SeenPost). s.plain) (new_posts xs (whos unposted) 0 unposted))) (same_Some (lead_home m l.0) h (ap (option_map (lead_home m)) (sym l.1) ∙ its)) (record {
      pool =
          let out = l.2.out in
          let none = ap (λ (v : Hand). v.out) t.is.base.hand in
          let homes = at_home m (whos unposted) (map (λ (s : SeenPost). s.plain) (new_posts xs (whos unposted) 0 unposted)) (homes_at xs (whos unposted) 0 unposted (λ k j s e same. (its_new scene wires xs unposted k s is e).home.among.node)) in
          let split = of_node m (whos unposted) in
          let hubs = ap (count_by (hub_at m)) (whos_are scene unposted is.names) ∙ one_hub m scene.nodes scene.links low in
          omega (arith, out, none, homes, split, hubs);
      inbox = λ x j e out. by j (l.2.marks j (ap (λ (p : PlainPass). is_in p.role.out j) (same_Some l.0.inbox x e) ∙ out)) (ap (λ (p : PlainPass). is_in p.role.out j) t.is.pass);
    }) where
      by : (j : ℕ) {b : Bool} → (b ≡ true) ⊎ HasMark m j (whos unposted) → b ≡ false → j < length (links_at m scene.links)
      by j (inl wrong) none = absurd (true≢false (sym wrong ∙ none))
      by j (inr mark) none =
          let o = there (parties_of scene) mark.place (who.Iface m j) (ap (λ ws. slice_get ws mark.place) (sym (whos_are scene unposted is.names)) ∙ mark.at) in
          (subst (IsThere (length scene.nodes) scene.links) o.2 (all_at (λ (z : PlainOpening). IsThere (length scene.nodes) scene.links z.who) (parties_of scene) mark.place o.0 (parties_there scene) o.1)).1 where
            there : (os : List PlainOpening) (k : ℕ) (w : Who) → slice_get (map (λ (z : PlainOpening). z.who) os) k ≡ Some w → (z : PlainOpening) × (slice_get os k ≡ Some z) × (z.who ≡ w)
            there [] k w e = absurd cc
            there (z ∷ os) zero w e = (z, refl, same_Some z.who w e)
            there (z ∷ os) (suc k) w e = there os k w e

all_shared : (scene : PlainScene) (wires : List (List Wire)) (xs : List Node) (unposted : List Unposted) → AreOpened scene wires xs unposted → (k : ℕ) (s : PlainPost) (h : PlainHome)
    → slice_get (map (λ (z : SeenPost). z.plain) (new_posts xs (whos unposted) 0 unposted)) k ≡ Some s → is_leader s.who ≡ true → s.ends.home ≡ Some h → IsShared scene (map (λ (z : SeenPost). z.plain) (new_posts xs (whos unposted) 0 unposted)) h
all_shared scene wires xs unposted is k s h at lead its =
    let r = post_at xs (whos unposted) 0 unposted k s at in
    by r.one.who
    (node_low (length scene.nodes) scene.links r.one.who
    (all_at (λ (z : PlainOpening). IsThere (length scene.nodes) scene.links z.who) (parties_of scene) k (unposted_name r.one) (parties_there scene) (opening_at scene unposted k r.one is.names r.at)))
    (ap (λ (z : PlainPost). is_leader z.who) (sym r.is) ∙ lead) (ap (λ (z : PlainPost). z.ends.home) (sym r.is) ∙ its) where
      by : (w : Who) → IfSome (node_of w) (λ m. m < length scene.nodes) → is_leader w ≡ true → its_home xs (whos unposted) w ≡ Some h → IsShared scene (map (λ (z : SeenPost). z.plain) (new_posts xs (whos unposted) 0 unposted)) h
      by (who.Router m) low e f = hub_shared scene wires xs unposted m h is low f
      by (who.Bridge m) low e f = hub_shared scene wires xs unposted m h is low f
      by (who.Iface m j) low e f = absurd cc
      by (who.App m j) low e f = absurd cc
      by (who.Link j) low e f = absurd cc

-- a party can note the numbers of all buffers of its node
can_note : (scene : PlainScene) (wires : List (List Wire)) (xs : List Node) (t : Unposted) → AreNodesWith (plans_from 0 scene.nodes scene.links) wires xs → IsUnposted xs t → IfSome (node_of t.who) (λ m. m < length scene.nodes) → buffers_at scene (node_of t.who) ≤ vec_capacity t.numbers
can_note scene wires xs t nodes unposted low = by (node_of t.who) low (let many = unposted.numbers in omega (arith, many)) where
  by : (o : Option ℕ) → IfSome o (λ m. m < length scene.nodes) → count_at xs o ≤ vec_capacity t.numbers → buffers_at scene o ≤ vec_capacity t.numbers
  by None low few = few
  by (Some m) low few =
      let x = node_there 0 scene.nodes scene.links wires xs nodes m low in
      let has = ap count_or x.at in
      let same = ap (λ (n : PlainNode). n.buffers) (node_is scene.nodes m x.plain x.plain_at) in
      let many = x.is.base.capacity ∙ x.is.count in
      omega (arith, few, has, same, many)

-- the regions of stores
regions_are : (xs : List Node) → map (λ (s : NodeStore). s.store.region) (map store_in xs) ≡ map region_in xs
regions_are [] = refl
regions_are (x ∷ xs) = ap (λ rs. region_in x ∷ rs) (regions_are xs)

new_long : (xs : List Node) (ws : List Who) (p : ℕ) (unposted : List Unposted) → length (new_posts xs ws p unposted) ≡ length unposted
new_long xs ws p [] = refl
new_long xs ws p (s ∷ unposted) = ap suc (new_long xs ws (p + 1) unposted)

-- what the fabric of these nodes and parties is made of
pub record IsMadeOf (ws : List (Vec Wire)) (xs : List Node) (unposted : List Unposted) (f : Fabric) : Type 0 where
  pub queues : f.queues ≡ map queues_in xs
  pub stores : f.stores.items ≡ map store_in xs
  pub rooms : f.rooms.items ≡ map rooms_in xs
  pub wires : f.wires.items ≡ ws
  pub notes : f.notes ≡ record { left = []; held = []; queues = queue_count ws; others = length unposted + length xs }
  pub logs : f.logs.items ≡ []
  pub logs_room : length unposted ≤ vec_capacity f.logs
  pub retired : f.retired.items ≡ []
  pub retired_room : length unposted ≤ vec_capacity f.retired

-- it is that of the scene, with these posts
pub is_fabric : (scene : PlainScene) (wires : List (Vec Wire)) (xs : List Node) (unposted : List Unposted) (f : Fabric) → AreWires scene (map (λ (ws : Vec Wire). ws.items) wires)
    → AreOpened scene (map (λ (ws : Vec Wire). ws.items) wires) xs unposted → IsMadeOf wires xs unposted f → IsFabricOf scene f (new_posts xs (whos unposted) 0 unposted)
is_fabric scene wires xs unposted f are is made =
    let rows = map (λ (ws : Vec Wire). ws.items) wires in
    let posts = new_posts xs (whos unposted) 0 unposted in
    let net : network_of f ≡ network xs = λ i. record { nodes = made.queues i; regions = (ap (map (λ (s : NodeStore). s.store.region)) made.stores ∙ regions_are xs) i } in
    let long = new_long xs (whos unposted) 0 unposted in
    record {
      network = subst (λ n. IsNetworkOf scene n (map (λ (s : SeenPost). s.plain) posts)) (sym net) (record {
        nodes = nodes_of scene 0 scene.nodes (wires_of scene) rows xs is.nodes is.rows;
        regions = length-map xs region_in ∙ sym (length-map xs queues_in);
        parties = posts_from_here scene xs (whos unposted) 0 (parties_of scene) unposted is.names (λ k j t e same.
            is_post scene xs (whos unposted) j t (unposted_name t) refl (all_at (IsUnposted xs) unposted k t is.each e)
            (subst (λ p. IsPartyNew scene xs (whos unposted) p t.who) (omega (arith, same)) (its_new scene rows xs unposted k t is e)));
        shared = all_shared scene rows xs unposted is;
      });
      wires = subst (λ ws. AreWires scene (map (λ (v : Vec Wire). v.items) ws)) (sym made.wires) are;
      stores = subst (AreStoresOf scene.nodes (wires_of scene)) (sym made.stores) (stores_of scene 0 scene.nodes (wires_of scene) rows xs is.nodes is.rows);
      rooms = subst (AreRoomsOf scene.nodes (wires_of scene)) (sym made.rooms) (rooms_of scene 0 scene.nodes (wires_of scene) rows xs is.nodes is.rows);
      unleft = ap (λ (n : PlainNotes). n.left) made.notes;
      unheld = ap (λ (n : PlainNotes). n.held) made.notes;
      queues = (let a = queues_counted scene (wires_of scene) wires is.rows in let b = ap (λ (n : PlainNotes). n.queues) made.notes in omega (arith, a, b));
      others = (let b = ap (λ (n : PlainNotes). n.others) made.notes in let c = as_many (plans_from 0 scene.nodes scene.links) rows xs is.nodes in let d = plans_count 0 scene.nodes scene.links in omega (arith, long, b, c, d));
      unlogged = made.logs;
      logs = (let room = made.logs_room in omega (arith, long, room));
      none = made.retired;
      retired = (let room = made.retired_room in omega (arith, long, room));
      numbers = all_posts (CanNote scene) xs (whos unposted) 0 unposted (λ k j t e same.
          can_note scene rows xs t is.nodes (all_at (IsUnposted xs) unposted k t is.each e)
          (node_low (length scene.nodes) scene.links t.who
          (all_at (λ (z : PlainOpening). IsThere (length scene.nodes) scene.links z.who) (parties_of scene) k (unposted_name t) (parties_there scene) (opening_at scene unposted k t is.names e))));
    }

-- nothing has happened
pub none_happened : (xs : List Node) (ws : List Who) (p : ℕ) (unposted : List Unposted) → AllByRecursion (λ (s : SeenPost). s.plain.entries ≡ []) (new_posts xs ws p unposted)
none_happened xs ws p unposted = all_posts (λ (s : SeenPost). s.plain.entries ≡ []) xs ws p unposted (λ k j t e same. refl)

pub all_fresh : (scene : PlainScene) (wires : List (List Wire)) (xs : List Node) (unposted : List Unposted) → AreOpened scene wires xs unposted → AllByRecursion (λ (s : SeenPost). IfSome s.plain.ends.home IsFresh) (new_posts xs (whos unposted) 0 unposted)
all_fresh scene wires xs unposted is = all_posts (λ (s : SeenPost). IfSome s.plain.ends.home IsFresh) xs (whos unposted) 0 unposted (λ k j t e same. (its_new scene wires xs unposted k t is e).home.fresh)
