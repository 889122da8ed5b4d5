-- The parties and the memory of a network can end.
use Rattle.std.proofs.Common.{◌≡◌, ◌+◌, ◌-◌, ◌≤◌, ℕ, zero, suc, Bool, true, Option, None, Some, List, [], ◌∷◌, ◌++◌, All, length, map, take, refl, sym, ap, ◌∙◌, subst, arith, append_assoc, length-append}
use Rattle.std.specs.Prelude.{IfSome, IsSomeAnd, if◌then◌else◌, slice_get, slice_range, vec_capacity}
use Rattle.std.specs.List.{AllByRecursion, flat_map, range_with_len}
use Rattle.std.specs.Option.{option_map}
use Rattle.std.proofs.lemmas.List.{drop_at, length-map, take_at}
use Rattle.std.proofs.lemmas.List.Elements.{All-head, All-rest}
use Rattle.std.proofs.lemmas.List.FromFn.{length-range_with_len}
use Rattle.std.proofs.lemmas.Option.{same_Some, slice_get-map, get_or_from_slice_get}
use Rattle.csp_arena.specs.Cells.{RegionName}
use Rattle.csp_closing.proofs.Lists.{all_at, all_from, equals, made_at, made_from, times_two}
use Rattle.csp_closing.proofs.Members.{homes_of}
use Rattle.csp_closing.proofs.Noted.{back_at_one}
use Rattle.csp_closing.proofs.Piles.{HaveRoomFor, IsEndable, all_back, can_end, held_of_all}
use Rattle.csp_closing.proofs.Remains.{sides_of}
use Rattle.csp_closing.specs.Nodes.{HaveBack, left_numbers, queue_numbers}
use Rattle.csp_closing.specs.Retired.{IsFresh, PlainRetired, all_homes, all_rest, all_sides, post_of, rest_of, retired_of, to_retire}
use Rattle.csp_closing.specs.Stores.{CanEndParties, CanGiveBack, PlainPile, parties_back, pile_of, pool_part, with_back}
use Rattle.csp_consistent.proofs.Public.{IsOwn, own_told, scene_own}
use Rattle.csp_consistent.specs.Pools.{is_node}
use Rattle.csp_deck.specs.Runs.{Steps, state_after}
use Rattle.csp_deck.specs.Step.{times}
use Rattle.csp_ends.specs.Ends.{PlainHome, PlainSide, region_or}
use Rattle.csp_lists.specs.PlainDeck.{numbers_of}
use Rattle.csp_log.specs.declared.entry.Entry.{Entry}
use Rattle.csp_log.specs.declared.shown.AnswerShown.{AnswerShown}
use Rattle.csp_party.specs.Any.{PlainParty, a_bridge, a_hub, a_link, a_router, an_app, an_iface, holds, plain, region_of}
use Rattle.csp_posts.specs.Between.{is_home}
use Rattle.csp_posts.specs.Posts.{PlainPost}
use Rattle.csp_posts.specs.Seen.{SeenPost}
use Rattle.csp_posts.specs.declared.retired.Retired.{Retired}
use Rattle.csp_log.specs.Who.{node_of}
use Rattle.csp_log.specs.declared.who.Who.{Who}
use Rattle.csp_log.specs.declared.who.Who.TheVariants as who
use Rattle.csp_scene.specs.Links.{no_node}
use Rattle.csp_scene.specs.Scene.{PlainNode, PlainScene}
use Rattle.csp_standing.proofs.Public.{home_named, post_at}
use Rattle.csp_standing.specs.Fabrics.{AreStoresOf, CanNote, IsStoreOf, buffers_at}
use Rattle.csp_standing.specs.Network.{IsNetworkOf, IsPostOf, PlainNetwork}
use Rattle.csp_standing.specs.declared.fabric.NodeStore.{NodeStore}
use Rattle.csp_telling.specs.Remains.{PlainRemains, held_at, inbox_numbers, returned}
use Rattle.csp_topology.specs.Lanes.{PlainLane}
use Rattle.csp_topology.specs.Parties.{PlainOpening, parties_of, party_steps}

-- the posts that parties were
pub homes_same : (rs : List Retired) → all_homes rs ≡ homes_of (map post_of rs)
homes_same [] = refl
homes_same (r ∷ rs) = ap (λ (hs : List (Option PlainHome)). r.ends.home ∷ hs) (homes_same rs)

pub sides_same : (rs : List Retired) → all_sides rs ≡ sides_of (map post_of rs)
sides_same [] = refl
sides_same (r ∷ rs) = ap (λ (ss : List (List PlainSide)). r.ends.sides ∷ ss) (sides_same rs)

pub posts_same : (rs : List Retired) (posts : List SeenPost) → map retired_of rs ≡ map to_retire posts → map post_of rs ≡ map (λ (s : SeenPost). s.plain) posts
posts_same [] [] e = refl
posts_same (r ∷ rs) (s ∷ posts) e =
    let head : retired_of r ≡ to_retire s = cc in
    let later : map retired_of rs ≡ map to_retire posts = cc in
    ap (λ (x : PlainRetired). x.post ∷ map post_of rs) head ∙ ap (λ (ps : List PlainPost). s.plain ∷ ps) (posts_same rs posts later)
posts_same [] (s ∷ posts) e = absurd cc
posts_same (r ∷ rs) [] e = absurd cc

-- a post's room is that of its party
pub room_same : (rs : List Retired) (posts : List SeenPost) (k : ℕ) (r : Retired) → map retired_of rs ≡ map to_retire posts → slice_get rs k ≡ Some r → (s : SeenPost) × (slice_get posts k ≡ Some s) × (s.plain ≡ post_of r) × (s.room ≡ vec_capacity r.numbers)
room_same [] posts k r e at = absurd cc
room_same (x ∷ rs) (s ∷ posts) zero r e at =
    let head : retired_of x ≡ to_retire s = cc in
    let same : x ≡ r = same_Some x r at in
    (s, refl, ap (λ (y : PlainRetired). y.post) (sym head) ∙ ap post_of same, ap (λ (y : PlainRetired). y.room) (sym head) ∙ ap (λ (y : Retired). vec_capacity y.numbers) same)
room_same (x ∷ rs) (s ∷ posts) (suc k) r e at =
    let later : map retired_of rs ≡ map to_retire posts = cc in
    room_same rs posts k r later at
room_same (x ∷ rs) [] k r e at = absurd cc

-- a link holds nothing, nor does a hub
state_so : {S : Type 0} (steps : Steps S) (P : S → Type 0) → ((p : S) (time : ℕ) (a : AnswerShown) → P p → P (steps.tells (steps.asked p time) time a)) → (p : S) (es : List Entry) → P p → P (state_after steps p es)
state_so steps P told p [] own = own
state_so steps P told p (e ∷ es) own = state_so steps P told _ es (told p e.time e.answer own)

own_after : (w : Who) (p : PlainParty) (es : List Entry) → IsOwn w p → IsOwn w (state_after party_steps p es)
own_after w p es own = state_so party_steps (IsOwn w) (own_told w) p es own

no_home : (w : Who) (p : PlainParty) → node_of w ≡ None → IsOwn w p → holds p ≡ []
no_home (who.Router k) p e own = absurd cc
no_home (who.Bridge k) p e own = absurd cc
no_home (who.Iface n k) p e own = absurd cc
no_home (who.App n k) p e own = absurd cc
no_home (who.Link k) (a_link l) e own = refl
no_home (who.Link k) (a_hub h) e own = refl
no_home (who.Link k) (a_router l) e own = absurd own
no_home (who.Link k) (a_bridge l) e own = absurd own
no_home (who.Link k) (an_iface l) e own = absurd own
no_home (who.Link k) (an_app l) e own = absurd own

link_none : (scene : PlainScene) (n : PlainNetwork) (o : PlainOpening) (k : ℕ) (s : PlainPost) → slice_get (parties_of scene) k ≡ Some o → IsPostOf scene n o s → node_of s.who ≡ None → holds s.party ≡ []
link_none scene n o k s at post none =
    let opened : IsOwn o.who o.party = all_at (λ (o : PlainOpening). IsOwn o.who o.party) (parties_of scene) k o (scene_own scene) at in
    let own = own_after o.who o.party s.entries opened in
    no_home o.who s.party (ap node_of (sym post.who) ∙ none) (subst (IsOwn o.who) post.from.runs.reached own)

-- what a node's parties hold
abbrev IsAtHome : PlainPost → Type 0
IsAtHome s = option_map (λ (h : PlainHome). h.node) s.ends.home ≡ node_of s.who

home_is : (node : ℕ) (home : Option PlainHome) (w : Option ℕ) → option_map (λ (h : PlainHome). h.node) home ≡ w → is_home node home ≡ is_node node w
home_is node None w e = ap (is_node node) e
home_is node (Some h) w e = ap (is_node node) e

held_same : (node : ℕ) (rs : List Retired) → AllByRecursion IsAtHome (map post_of rs) → held_of_all node (all_rest rs) ≡ held_at node (map post_of rs)
held_same node [] h = refl
held_same node (r ∷ rs) h =
    ap (λ (b : Bool). (if b then holds (plain r.party) else []) ++ held_of_all node (all_rest rs)) (sym (home_is node r.ends.home (node_of r.who) h.0))
    ∙ ap (λ (ns : List ℕ). (if is_home node r.ends.home then holds (plain r.party) else []) ++ ns) (held_same node rs h.1)

at_home : (scene : PlainScene) (n : PlainNetwork) (posts : List PlainPost) → IsNetworkOf scene n posts → AllByRecursion IsAtHome posts
at_home scene n posts net = all_from IsAtHome posts (λ k s at.
    let x = post_at scene n (parties_of scene) posts k s net.parties at in
    x.post.home.node ∙ ap node_of (sym x.post.who))

-- what one of them holds is among that
one_held : (node k : ℕ) (posts : List PlainPost) (s : PlainPost) → slice_get posts k ≡ Some s → is_home node s.ends.home ≡ true → length (holds s.party) ≤ length (held_at node posts)
one_held node k [] s at home = absurd cc
one_held node zero (x ∷ posts) s at home =
    let same : x ≡ s = same_Some x s at in
    let own : length (if is_home node x.ends.home then holds x.party else []) ≡ length (holds s.party) = ap (λ (y : PlainPost). length (if is_home node y.ends.home then holds y.party else [])) same ∙ ap (λ (b : Bool). length (if b then holds s.party else [])) home in
    let both = length-append (if is_home node x.ends.home then holds x.party else []) (held_at node posts) in
    omega (arith, own, both)
one_held node (suc k) (x ∷ posts) s at home =
    let later = one_held node k posts s at home in
    let both = length-append (if is_home node x.ends.home then holds x.party else []) (held_at node posts) in
    omega (arith, later, both)

-- the law that what came back and what parties hold is all
abbrev pub ReturnsAll : PlainScene → List PlainPost → List PlainRemains → Type 0
ReturnsAll scene posts all = (node : ℕ) (c : PlainNode) (m : PlainRemains) → slice_get scene.nodes node ≡ Some c → slice_get all node ≡ Some m → (k : ℕ) → times k (returned node m posts) ≡ times k (range_with_len 0 c.buffers)

abbrev pub LongSame : Type 0
LongSame = (xs ys : List ℕ) → ((k : ℕ) → times k xs ≡ times k ys) → length xs ≡ length ys

all_returned : (k node : ℕ) (m : PlainRemains) (posts : List PlainPost) → times k (left_numbers m ++ held_at node posts) ≡ times k (returned node m posts)
all_returned k node m posts =
    let lanes = flat_map numbers_of m.lanes in
    let inbox = inbox_numbers m in
    let held = held_at node posts in
    let one = times_two k (left_numbers m) held in
    let two = times_two k (queue_numbers m) m.pool in
    let three = times_two k lanes inbox in
    let four = times_two k m.pool (lanes ++ (inbox ++ held)) in
    let five = times_two k lanes (inbox ++ held) in
    let six = times_two k inbox held in
    omega (arith, one, two, three, four, five, six)

-- the memory of a node, with what is back there from its queues
pub record IsPileOf (scene : PlainScene) (posts : List PlainPost) (all : List PlainRemains) (node : ℕ) (t : NodeStore) : Type 0 where
  pub c : PlainNode
  pub m : PlainRemains
  pub node_there : slice_get scene.nodes node ≡ Some c
  pub left_there : slice_get all node ≡ Some m
  pub numbers : t.store.numbers ≡ left_numbers m
  pub count : t.store.count ≡ c.buffers
  pub room : c.buffers ≤ t.store.room
  pub first : t.first ≡ length (queue_numbers m)
  pub last : t.last ≡ t.first + length m.pool
  pub unnoted : t.numbers.items ≡ []
  pub spare : c.buffers ≤ vec_capacity t.numbers
  pub whole : (k : ℕ) → times k (left_numbers m ++ held_at node posts) ≡ times k (range_with_len 0 c.buffers)
  pub long : length (left_numbers m) + length (held_at node posts) ≡ c.buffers

-- the store of a node of a scene
store_of : (ms : List PlainNode) (lanes : List (List PlainLane)) (stores : List NodeStore) (k : ℕ) (s : NodeStore) → AreStoresOf ms lanes stores → slice_get stores k ≡ Some s
    → (c : PlainNode) × (ls : List PlainLane) × (slice_get ms k ≡ Some c) × IsStoreOf c ls s
store_of [] [] [] k s h e = absurd cc
store_of (m ∷ ms) (ls ∷ lanes) (x ∷ stores) zero s h e = (m, ls, refl, subst (IsStoreOf m ls) (same_Some x s e) h.0)
store_of (m ∷ ms) (ls ∷ lanes) (x ∷ stores) (suc k) s h e = store_of ms lanes stores k s h.1 e
store_of [] (ls ∷ lanes) stores k s h e = absurd h
store_of [] [] (x ∷ stores) k s h e = absurd h
store_of (m ∷ ms) [] stores k s h e = absurd h
store_of (m ∷ ms) (ls ∷ lanes) [] k s h e = absurd h

pub piles_of : LongSame → (scene : PlainScene) (lanes : List (List PlainLane)) (posts : List PlainPost) (stores : List NodeStore) (all : List PlainRemains) (after : List NodeStore) → AreStoresOf scene.nodes lanes stores → HaveBack stores all after
    → ReturnsAll scene posts all → (k : ℕ) (t : NodeStore) → slice_get after k ≡ Some t → IsPileOf scene posts all k t
piles_of long scene lanes posts stores all after are back returns k t at =
    let b = back_at_one stores all after k t back at in
    let (c, ls, there, store) = store_of scene.nodes lanes stores k b.s are b.before in
    let none : length b.s.store.numbers ≡ 0 = ap (λ (ns : List ℕ). length ns) store.none in
    let whole : (j : ℕ) → times j (left_numbers b.left ++ held_at k posts) ≡ times j (range_with_len 0 c.buffers) = λ j. all_returned j k b.left posts ∙ returns k c b.left there b.there j in
    let same = long (left_numbers b.left ++ held_at k posts) (range_with_len 0 c.buffers) whole in
    let count = store.count in
    let counted = b.back.count in
    let room = store.room in
    let its_room = b.back.room in
    let first = b.back.first in
    let last = b.back.last in
    let spare = store.numbers in
    let capacity = b.back.capacity in
    let two = length-append (left_numbers b.left) (held_at k posts) in
    let range = length-range_with_len 0 c.buffers in
    record {
      c = c;
      m = b.left;
      node_there = there;
      left_there = b.there;
      numbers = b.back.numbers ∙ ap (λ (ns : List ℕ). ns ++ left_numbers b.left) store.none;
      count = counted ∙ count;
      room = omega (arith, room, its_room);
      first = omega (arith, first, none);
      last = last;
      unnoted = b.back.unnoted ∙ store.unnoted;
      spare = omega (arith, spare, capacity);
      whole = whole;
      long = omega (arith, same, two, range);
    }

-- the memory of each node has room for what its parties hold
pub have_room : (scene : PlainScene) (n : PlainNetwork) (rs : List Retired) (all : List PlainRemains) (after : List NodeStore) → IsNetworkOf scene n (map post_of rs) → ((k : ℕ) (t : NodeStore) → slice_get after k ≡ Some t → IsPileOf scene (map post_of rs) all k t)
    → HaveRoomFor (map pile_of after) (all_rest rs)
have_room scene n rs all after net piles = λ node s at.
    let (t, there, is) = made_from pile_of after node s at in
    let pile = piles node t there in
    let own : length s.store.numbers ≡ length (left_numbers pile.m) = ap (λ (x : PlainPile). length x.store.numbers) (sym is) ∙ ap (λ (ns : List ℕ). length ns) pile.numbers in
    let room : s.store.room ≡ t.store.room = ap (λ (x : PlainPile). x.store.room) (sym is) in
    let held : length (held_of_all node (all_rest rs)) ≡ length (held_at node (map post_of rs)) = ap (λ (ns : List ℕ). length ns) (held_same node rs (at_home scene n (map post_of rs) net)) in
    let long = pile.long in
    let few = pile.room in
    omega (arith, own, room, held, long, few)

-- the region of a node's memory stays
region_there : (stores : List NodeStore) (all : List PlainRemains) (after : List NodeStore) (node : ℕ) (region : RegionName) → HaveBack stores all after → slice_get (map (λ (s : NodeStore). s.store.region) stores) node ≡ Some region
    → IsSomeAnd (slice_get (map pile_of after) node) (λ s. region ≡ s.store.region)
region_there [] all after node region h e = absurd cc
region_there (s ∷ stores) (m ∷ all) (t ∷ after) zero region h e = sym (same_Some s.store.region region e) ∙ sym h.0.region
region_there (s ∷ stores) (m ∷ all) (t ∷ after) (suc node) region h e = region_there stores all after node region h.1 e
region_there (s ∷ stores) [] after node region h e = absurd h
region_there (s ∷ stores) (m ∷ all) [] node region h e = absurd h

fresh_at : (rs : List Retired) (k : ℕ) (r : Retired) → All IsFresh rs → slice_get rs k ≡ Some r → IsFresh r
fresh_at [] k r h e = absurd cc
fresh_at (x ∷ rs) zero r h e = subst IsFresh (same_Some x r e) (All-head IsFresh x rs h)
fresh_at (x ∷ rs) (suc k) r h e = fresh_at rs k r (All-rest IsFresh x rs (x ∷ rs) refl h) e

-- a party's room is enough for what it holds
few_held : (scene : PlainScene) (rs : List Retired) (all : List PlainRemains) (after : List NodeStore) → ((k : ℕ) (t : NodeStore) → slice_get after k ≡ Some t → IsPileOf scene (map post_of rs) all k t) → (k : ℕ) (r : Retired) → slice_get rs k ≡ Some r
    → buffers_at scene (node_of r.who) ≤ vec_capacity r.numbers → option_map (λ (h : PlainHome). h.node) r.ends.home ≡ node_of r.who → (node_of r.who ≡ None → holds (plain r.party) ≡ [])
    → ((node : ℕ) → node_of r.who ≡ Some node → IsSomeAnd (slice_get (map pile_of after) node) (λ s. region_of r.party ≡ s.store.region)) → length (holds (plain r.party)) ≤ vec_capacity r.numbers
few_held scene rs all after piles k r at note home link pile = by (node_of r.who) refl where
  found : (node : ℕ) → node_of r.who ≡ Some node → (o : Option PlainPile) → slice_get (map pile_of after) node ≡ o → IsSomeAnd o (λ s. region_of r.party ≡ s.store.region) → length (holds (plain r.party)) ≤ vec_capacity r.numbers
  found node e None f h = absurd h
  found node e (Some x) f h =
      let (t, there, is) = made_from pile_of after node x f in
      let p = piles node t there in
      let g = home_named r.ends.home node (home ∙ e) in
      let of_it : is_home node r.ends.home ≡ true = ap (is_home node) g.1 ∙ equals g.0.node node g.2 in
      let one = one_held node k (map post_of rs) (post_of r) (made_at post_of rs k r at) of_it in
      let long = p.long in
      let own : buffers_at scene (node_of r.who) ≡ p.c.buffers = ap (buffers_at scene) e ∙ ap (λ (c : PlainNode). c.buffers) (get_or_from_slice_get scene.nodes node p.c no_node p.node_there) in
      omega (arith, one, long, own, note)

  by : (o : Option ℕ) → node_of r.who ≡ o → length (holds (plain r.party)) ≤ vec_capacity r.numbers
  by None e =
      let none : length (holds (plain r.party)) ≡ 0 = ap (λ (ns : List ℕ). length ns) (link e) in
      omega (arith, none)
  by (Some node) e = found node e (slice_get (map pile_of after) node) refl (pile node e)

-- each party can end
one_endable : (scene : PlainScene) (n : PlainNetwork) (rs : List Retired) (posts : List SeenPost) (stores : List NodeStore) (all : List PlainRemains) (after : List NodeStore) → IsNetworkOf scene n (map post_of rs)
    → n.regions ≡ map (λ (s : NodeStore). s.store.region) stores → map retired_of rs ≡ map to_retire posts → All IsFresh rs → AllByRecursion (CanNote scene) posts → HaveBack stores all after
    → ((k : ℕ) (t : NodeStore) → slice_get after k ≡ Some t → IsPileOf scene (map post_of rs) all k t) → (k : ℕ) (r : Retired) → slice_get rs k ≡ Some r → IsEndable (map pile_of after) (rest_of r)
one_endable scene n rs posts stores all after net region_is same fresh notes back piles k r at =
    let f = fresh_at rs k r fresh at in
    let x = post_at scene n (parties_of scene) (map post_of rs) k (post_of r) net.parties (made_at post_of rs k r at) in
    let (s, at_s, is, room) = room_same rs posts k r same at in
    let noted = all_at (CanNote scene) posts k s notes at_s in
    let note : buffers_at scene (node_of r.who) ≤ vec_capacity r.numbers = subst (λ (m : ℕ). buffers_at scene (node_of r.who) ≤ m) room (subst (λ (p : PlainPost). buffers_at scene (node_of p.who) ≤ s.room) is noted) in
    let home_node : option_map (λ (h : PlainHome). h.node) r.ends.home ≡ node_of r.who = x.post.home.node ∙ ap node_of (sym x.post.who) in
    let pile_at = its_pile x.party x.post f home_node in
    let link = link_none scene n x.party k (post_of r) x.there x.post in
    record { unnoted = f.unnoted; room = few_held scene rs all after piles k r at note home_node link pile_at; link = link; home = pile_at }
  where
    its_pile : (o : PlainOpening) → IsPostOf scene n o (post_of r) → IsFresh r → option_map (λ (h : PlainHome). h.node) r.ends.home ≡ node_of r.who → (node : ℕ) → node_of r.who ≡ Some node → IsSomeAnd (slice_get (map pile_of after) node) (λ s. region_of r.party ≡ s.store.region)
    its_pile o post f home_node node e =
        let h = home_named r.ends.home node (home_node ∙ e) in
        let region : slice_get n.regions h.0.node ≡ Some h.0.pool.hand.region = subst (λ y. IfSome y (λ h. slice_get n.regions h.node ≡ Some h.pool.hand.region)) h.1 post.home.region in
        let its : region_of r.party ≡ h.0.pool.hand.region = f.region ∙ ap region_or h.1 in
        subst (λ (g : RegionName). IsSomeAnd (slice_get (map pile_of after) node) (λ s. g ≡ s.store.region)) (sym its)
        (region_there stores all after node h.0.pool.hand.region back (ap (λ (l : List RegionName). slice_get l node) (sym region_is) ∙ ap (slice_get n.regions) (sym h.2) ∙ region))

pub can_end_all : (scene : PlainScene) (n : PlainNetwork) (rs : List Retired) (posts : List SeenPost) (stores : List NodeStore) (all : List PlainRemains) (after : List NodeStore) → IsNetworkOf scene n (map post_of rs)
    → n.regions ≡ map (λ (s : NodeStore). s.store.region) stores → map retired_of rs ≡ map to_retire posts → All IsFresh rs → AllByRecursion (CanNote scene) posts → HaveBack stores all after
    → ((k : ℕ) (t : NodeStore) → slice_get after k ≡ Some t → IsPileOf scene (map post_of rs) all k t) → CanEndParties (map pile_of after) (all_rest rs)
can_end_all scene n rs posts stores all after net region_is same fresh notes back piles =
    can_end (map pile_of after) (all_rest rs)
    (all_from (IsEndable (map pile_of after)) (all_rest rs) (λ k x e.
    let (r, at, is) = made_from rest_of rs k x e in
    subst (IsEndable (map pile_of after)) is (one_endable scene n rs posts stores all after net region_is same fresh notes back piles k r at)))
    (have_room scene n rs all after net piles)

-- the memory of a node once its parties have ended
pub record IsEnded (scene : PlainScene) (posts : List PlainPost) (all : List PlainRemains) (node : ℕ) (x : PlainPile) : Type 0 where
  pub m : PlainRemains
  pub there : slice_get all node ≡ Some m
  pub can : CanGiveBack x
  pub part : pool_part x ≡ m.pool

part_is : (first last : ℕ) (before pool more : List ℕ) → first ≡ length before → last ≡ first + length pool → slice_range (before ++ (pool ++ more)) first last ≡ pool
part_is first last before pool more f l =
    let count : last - first ≡ length pool = omega (arith, l) in
    ap (λ (xs : List ℕ). take (last - first) xs) (drop_at before (pool ++ more) first (sym f)) ∙ take_at pool more (last - first) (sym count)

pile_ended : (scene : PlainScene) (posts : List PlainPost) (all : List PlainRemains) (node : ℕ) (t : NodeStore) (held : List ℕ) → IsPileOf scene posts all node t → held ≡ held_at node posts → IsEnded scene posts all node (with_back held (pile_of t))
pile_ended scene posts all node t held p same =
    let numbers : t.store.numbers ++ held ≡ left_numbers p.m ++ held_at node posts = ap (λ (ns : List ℕ). ns ++ held) p.numbers ∙ ap (λ (ns : List ℕ). left_numbers p.m ++ ns) same in
    let apart : t.store.numbers ++ held ≡ queue_numbers p.m ++ (p.m.pool ++ held_at node posts) = numbers ∙ append_assoc (queue_numbers p.m) p.m.pool (held_at node posts) in
    let long : length (t.store.numbers ++ held) ≡ length (queue_numbers p.m) + length (p.m.pool ++ held_at node posts) = ap (λ (ns : List ℕ). length ns) apart ∙ length-append (queue_numbers p.m) (p.m.pool ++ held_at node posts) in
    let more = length-append p.m.pool (held_at node posts) in
    let first = p.first in
    let last = p.last in
    let count = p.count in
    let spare = p.spare in
    record {
      m = p.m;
      there = p.left_there;
      can = record {
        from = omega (arith, last);
        to = omega (arith, first, last, long, more);
        unnoted = p.unnoted;
        room = omega (arith, count, spare);
        whole = λ k. ap (times k) numbers ∙ p.whole k ∙ ap (λ (c : ℕ). times k (range_with_len 0 c)) (sym p.count);
      };
      part = ap (λ (ns : List ℕ). slice_range ns t.first t.last) apart ∙ part_is t.first t.last (queue_numbers p.m) p.m.pool (held_at node posts) p.first p.last;
    }

pub ended_at : (scene : PlainScene) (n : PlainNetwork) (rs : List Retired) (all : List PlainRemains) (after : List NodeStore) → IsNetworkOf scene n (map post_of rs) → ((k : ℕ) (t : NodeStore) → slice_get after k ≡ Some t → IsPileOf scene (map post_of rs) all k t)
    → (k : ℕ) (x : PlainPile) → slice_get (parties_back (all_rest rs) (map pile_of after)) k ≡ Some x → IsEnded scene (map post_of rs) all k x
ended_at scene n rs all after net piles k x e = by (slice_get after k) refl where
  by : (o : Option NodeStore) → slice_get after k ≡ o → IsEnded scene (map post_of rs) all k x
  by None f =
      let none : slice_get (parties_back (all_rest rs) (map pile_of after)) k ≡ None = all_back k (all_rest rs) (map pile_of after) ∙ ap (option_map (with_back (held_of_all k (all_rest rs)))) (slice_get-map pile_of after k ∙ ap (option_map pile_of) f) in
      absurd (no_some x (sym e ∙ none)) where
        no_some : (x : PlainPile) → Some x ≡ None → ⊥
        no_some x e = absurd cc
  by (Some t) f =
      let is : slice_get (parties_back (all_rest rs) (map pile_of after)) k ≡ Some (with_back (held_of_all k (all_rest rs)) (pile_of t)) = all_back k (all_rest rs) (map pile_of after) ∙ ap (option_map (with_back (held_of_all k (all_rest rs)))) (slice_get-map pile_of after k ∙ ap (option_map pile_of) f) in
      subst (IsEnded scene (map post_of rs) all k) (same_Some (with_back (held_of_all k (all_rest rs)) (pile_of t)) x (sym is ∙ e))
      (pile_ended scene (map post_of rs) all k t (held_of_all k (all_rest rs)) (piles k t f) (held_same k rs (at_home scene n (map post_of rs) net)))

-- two lists that are the same at each place
same_places : {X : Type 0} (xs ys : List X) → length xs ≡ length ys → ((k : ℕ) (x : X) → slice_get xs k ≡ Some x → slice_get ys k ≡ Some x) → xs ≡ ys
same_places [] [] e f = refl
same_places (x ∷ xs) (y ∷ ys) e f =
    let first : y ≡ x = same_Some y x (f 0 x refl) in
    ap (λ z. z ∷ xs) (sym first) ∙ ap (λ zs. y ∷ zs) (same_places xs ys (omega (arith, e)) (λ k. f (suc k)))
same_places [] (y ∷ ys) e f = absurd (omega (arith, e))
same_places (x ∷ xs) [] e f = absurd (omega (arith, e))

pub pools_are : (scene : PlainScene) (posts : List PlainPost) (all : List PlainRemains) (ended : List PlainPile) → length ended ≡ length all → ((k : ℕ) (x : PlainPile) → slice_get ended k ≡ Some x → IsEnded scene posts all k x)
    → map pool_part ended ≡ map (λ (m : PlainRemains). m.pool) all
pools_are scene posts all ended long is =
    same_places (map pool_part ended) (map (λ (m : PlainRemains). m.pool) all) (length-map ended pool_part ∙ long ∙ sym (length-map all (λ (m : PlainRemains). m.pool))) (λ k ns e.
    let (x, at, part) = made_from pool_part ended k ns e in
    let end = is k x at in
    made_at (λ (m : PlainRemains). m.pool) all k end.m end.there ∙ ap (λ (l : List ℕ). Some l) (sym end.part ∙ part))
