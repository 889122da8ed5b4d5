-- The numbers of each pool: none was lost or made.
use Rattle.std.proofs.Common.{◌≡◌, ◌+◌, ◌==◌, ℕ, zero, suc, Bool, true, false, cond, Option, None, Some, List, [], ◌∷◌, ◌++◌, length, map, flat_map, refl, sym, ap, ◌∙◌, arith, slice_get}
use Rattle.std.specs.List.{range_with_len}
use Rattle.std.specs.Option.{option_map}
use Rattle.std.specs.Prelude.{IfSome, if◌then◌else◌, slice_index_or}
use Rattle.std.proofs.lemmas.Bool.{eq-eqb}
use Rattle.std.proofs.lemmas.List.Sums.{sum_by-append}
use Rattle.std.proofs.lemmas.List.{append-nil, length-map}
use Rattle.std.proofs.lemmas.Option.{get_or_from_slice_get, same_Some, slice_get-map}
use Rattle.csp_consistent.proofs.Public.{IsOf, IsOwner, are_owners, leader_bridge, leader_router, who_is}
use Rattle.csp_consistent.specs.Pools.{given, given_at, is_node, taken, taken_at}
use Rattle.csp_consistent.specs.Told.{IsPoolTold}
use Rattle.csp_deck.specs.Step.{times}
use Rattle.csp_ends.specs.Ends.{PlainHome}
use Rattle.csp_ends.specs.Traced.{IsHomeTraced}
use Rattle.csp_log.specs.declared.entry.Entry.{Entry}
use Rattle.csp_posts.specs.Between.{is_home}
use Rattle.csp_posts.specs.Posts.{PlainPost}
use Rattle.csp_record.specs.Record.{PlainRecord}
use Rattle.csp_log.specs.Who.{node_of}
use Rattle.csp_log.specs.declared.who.Who.TheVariants as who
use Rattle.csp_log.specs.declared.who.Who.{Who}
use Rattle.csp_scene.specs.Links.{no_node, node_at}
use Rattle.csp_party.specs.Any.{PlainParty}
use Rattle.csp_scene.specs.Scene.{PlainLink, PlainNode, PlainScene}
use Rattle.csp_standing.proofs.Public.{HasHub, hub_at, hub_leads, hub_node, hub_place_of, each_at, at_home, IsAt, post_at}
use Rattle.csp_standing.specs.Network.{ArePostsOf, IsPostOf, PlainNetwork, opened_at, opened_in}
use Rattle.csp_telling.proofs.Nodes.{IsAtNode, IsEnded, IsKnown, at_scene}
use Rattle.csp_telling.specs.Closed.{log_of}
use Rattle.csp_telling.specs.Remains as remains
use Rattle.csp_telling.specs.Remains.{PlainRemains, put_at, put_from, taken_from}
use Rattle.csp_topology.specs.Lanes.{leader_of}
use Rattle.csp_topology.specs.Parties.{PlainOpening, parties_of}
use Rattle.csp_topology.specs.Wired.{Stands, is_leader}

times_joined : (k : ℕ) (xs ys : List ℕ) → times k (xs ++ ys) ≡ times k xs + times k ys
times_joined k xs ys = sum_by-append (λ n. cond (n == k) 1 0) xs ys

-- ---- what the parties of a node opened with is its leader's

-- who leads a node is its router or bridge
hub_is : (nodes : List PlainNode) (links : List PlainLink) (node : ℕ) (c : PlainNode) → slice_get nodes node ≡ Some c → (v : Who) (party : PlainParty) → IsOwner nodes links v party → is_leader v ≡ true → is_node node (node_of v) ≡ true → v ≡ leader_of node c.addr
hub_is nodes links node c there (who.Router a) party owner lead here = sym (who_is (leader_of node c.addr) (who.Router a) (leader_router nodes links node c there a party owner ∙ here))
hub_is nodes links node c there (who.Bridge a) party owner lead here = sym (who_is (leader_of node c.addr) (who.Bridge a) (leader_bridge nodes links node c there a party owner ∙ here))
hub_is nodes links node c there (who.Iface a k) party owner lead here = absurd cc
hub_is nodes links node c there (who.App a k) party owner lead here = absurd cc
hub_is nodes links node c there (who.Link k) party owner lead here = absurd cc

-- a list of which one element alone gives something gives what that does
none_gives : {X Y : Type 0} (f : X → List Y) (xs : List X) → ((b : ℕ) (z : X) → slice_get xs b ≡ Some z → f z ≡ []) → flat_map f xs ≡ []
none_gives f [] none = refl
none_gives f (x ∷ xs) none = rw (none 0 x refl, none_gives f xs (λ b. none (suc b))) refl

one_gives : {X Y : Type 0} (f : X → List Y) (xs : List X) (at : ℕ) (x : X) → slice_get xs at ≡ Some x → ((b : ℕ) (z : X) → slice_get xs b ≡ Some z → (b ≡ at → ⊥) → f z ≡ []) → flat_map f xs ≡ f x
one_gives f [] at x e others = absurd cc
one_gives f (z ∷ xs) zero x e others = rw (none_gives f xs (λ b y g. others (suc b) y g (λ h. absurd (omega (arith, h))))) (append-nil (f z) ∙ ap f (same_Some z x e))
one_gives f (z ∷ xs) (suc at) x e others =
    rw (others 0 z refl (λ h. absurd (omega (arith, h)))) (one_gives f xs at x e (λ b y g away. others (suc b) y g (λ h. away (omega (arith, h)))))

if_none : (b : Bool) (ns : List ℕ) → (b ≡ true → ns ≡ []) → (if b then ns else []) ≡ []
if_none true ns none = none refl
if_none false ns none = refl

opened_none : (scene : PlainScene) (w : Who) (node : Option ℕ) → is_leader w ≡ false → opened_at scene w node ≡ []
opened_none scene w None e = refl
opened_none scene w (Some node) e = ap (λ b. if b then range_with_len 0 (node_at scene.nodes node).buffers else []) e

opened_all : (scene : PlainScene) (w : Who) (node : ℕ) (c : PlainNode) → is_leader w ≡ true → node_of w ≡ Some node → slice_get scene.nodes node ≡ Some c → opened_in scene w ≡ range_with_len 0 c.buffers
opened_all scene w node c lead at there =
    ap (opened_at scene w) at
    ∙ ap (λ b. if b then range_with_len 0 (node_at scene.nodes node).buffers else []) lead
    ∙ ap (λ (x : PlainNode). range_with_len 0 x.buffers) (get_or_from_slice_get scene.nodes node c no_node there)

-- ---- what the parties of a node put and took, by their passes and by their logs

-- what a post opened with, where it is of a node
abbrev opened_here : PlainScene → ℕ → PlainPost → List ℕ
opened_here scene node s = (if is_node node (node_of s.who) then opened_in scene s.who else [])

home_put : (opened : List ℕ) (es : List Entry) (home : Option PlainHome) (node : ℕ) (k : ℕ) → IfSome home (IsHomeTraced opened es)
    → times k (if is_home node home then put_from home else []) ≡ times k (if is_home node home then opened else []) + times k (if is_home node home then given es else [])
home_put opened es None node k told = refl
home_put opened es (Some h) node k told = by (h.node == node) where
  by : (b : Bool) → times k (if b then h.pool.hand.put else []) ≡ times k (if b then opened else []) + times k (if b then given es else [])
  by true = ap (times k) told.put ∙ times_joined k opened (given es)
  by false = refl

home_taken : (opened : List ℕ) (es : List Entry) (home : Option PlainHome) (node : ℕ) → IfSome home (IsHomeTraced opened es) → (if is_home node home then taken_from home else []) ≡ (if is_home node home then taken es else [])
home_taken opened es None node told = refl
home_taken opened es (Some h) node told = ap (λ ns. if h.node == node then ns else []) told.taken

-- of one post
module _ (scene : PlainScene) (n : PlainNetwork) (node : ℕ) (o : PlainOpening) (s : PlainPost) (post : IsPostOf scene n o s) where
  is_there : is_home node s.ends.home ≡ is_node node (node_of s.who)
  is_there = at_home node s.ends.home (node_of s.who) (post.home.node ∙ ap node_of (sym post.who))

  one_put : (k : ℕ) → times k (if is_home node s.ends.home then put_from s.ends.home else []) ≡ times k (opened_here scene node s) + times k (given_at node (log_of s))
  one_put k =
      home_put (opened_in scene o.who) s.entries s.ends.home node k post.from.traced.home
      ∙ (λ i. times k (if is_there i then opened_in scene (sym post.who i) else []) + times k (if is_there i then given s.entries else []))

  one_taken : (if is_home node s.ends.home then taken_from s.ends.home else []) ≡ taken_at node (log_of s)
  one_taken = home_taken (opened_in scene o.who) s.entries s.ends.home node post.from.traced.home ∙ ap (λ t. if t then taken s.entries else []) is_there

-- of all
two_pairs : (a b c d e f g h i : ℕ) → a ≡ b + c → b ≡ d + e → c ≡ f + g → h ≡ d + f → i ≡ e + g → a ≡ h + i
two_pairs a b c d e f g h i p q r s t = omega (arith, p, q, r, s, t)

all_put : (scene : PlainScene) (n : PlainNetwork) (node k : ℕ) (os : List PlainOpening) (posts : List PlainPost) → ArePostsOf scene n os posts
    → times k (put_at node posts) ≡ times k (flat_map (opened_here scene node) posts) + times k (flat_map (given_at node) (map log_of posts))
all_put scene n node k [] [] are = refl
all_put scene n node k (o ∷ os) (s ∷ posts) are =
    two_pairs _ _ _ _ _ _ _ _ _
    (times_joined k (if is_home node s.ends.home then put_from s.ends.home else []) (put_at node posts))
    (one_put scene n node o s are.0 k)
    (all_put scene n node k os posts are.1)
    (times_joined k (opened_here scene node s) (flat_map (opened_here scene node) posts))
    (times_joined k (given_at node (log_of s)) (flat_map (given_at node) (map log_of posts)))
all_put scene n node k [] (s ∷ posts) are = absurd are
all_put scene n node k (o ∷ os) [] are = absurd are

all_taken : (scene : PlainScene) (n : PlainNetwork) (node : ℕ) (os : List PlainOpening) (posts : List PlainPost) → ArePostsOf scene n os posts → remains.taken_at node posts ≡ flat_map (taken_at node) (map log_of posts)
all_taken scene n node [] [] are = refl
all_taken scene n node (o ∷ os) (s ∷ posts) are = λ i. one_taken scene n node o s are.0 i ++ all_taken scene n node os posts are.1 i
all_taken scene n node [] (s ∷ posts) are = absurd are
all_taken scene n node (o ∷ os) [] are = absurd are

-- ---- the pool of a node

abbrev pub in_pools : List PlainRemains → List (List ℕ)
in_pools all = map (λ (m : PlainRemains). m.pool) all

module _ (scene : PlainScene) (n : PlainNetwork) (posts : List PlainPost) (r : PlainRecord) (ended : IsEnded scene n posts r) where
  pub many_pools : length (in_pools ended.closed.all) ≡ length scene.nodes
  many_pools = length-map ended.closed.all (λ (m : PlainRemains). m.pool) ∙ ended.closed.remains.nodes

  module _ (known : IsKnown scene r) (node : ℕ) (c : PlainNode) (there : slice_get scene.nodes node ≡ Some c) where
    abbrev stands : Stands scene (leader_of node c.addr)
    stands = known.hubs node c there

    abbrev hub : HasHub posts (leader_of node c.addr) node
    hub = hub_at scene n posts ended.net node c.addr stands

    others_none : (b : ℕ) (z : PlainPost) → slice_get posts b ≡ Some z → (b ≡ hub.at → ⊥) → opened_here scene node z ≡ []
    others_none b z at away = if_none (is_node node (node_of z.who)) (opened_in scene z.who) (λ here. by (is_leader z.who) refl here) where
      x : IsAt scene n (parties_of scene) b z
      x = post_at scene n (parties_of scene) posts b z ended.net.parties at

      by : (lead : Bool) → is_leader z.who ≡ lead → is_node node (node_of z.who) ≡ true → opened_in scene z.who ≡ []
      by false lead here = opened_none scene z.who (node_of z.who) lead
      by true lead here =
          let owner = each_at (IsOf scene) (parties_of scene) b x.party (are_owners scene) x.there in
          let named : x.party.who ≡ leader_of node c.addr
          = hub_is scene.nodes scene.links node c there x.party.who x.party.party owner (ap is_leader (sym x.post.who) ∙ lead) (ap (λ w. is_node node (node_of w)) (sym x.post.who) ∙ here) in
          absurd (away (known.apart b stands.place x.party stands.party x.there stands.at (named ∙ sym stands.named) ∙ sym (hub_place_of scene n posts ended.net node c.addr stands)))

    hub_opens : opened_here scene node hub.post ≡ range_with_len 0 c.buffers
    hub_opens =
        ap (λ w. if is_node node (node_of w) then opened_in scene w else []) hub.who
        ∙ ap (λ o. if is_node node o then opened_in scene (leader_of node c.addr) else []) (hub_node node c.addr)
        ∙ ap (λ t. if t then opened_in scene (leader_of node c.addr) else []) (eq-eqb node node refl)
        ∙ opened_all scene (leader_of node c.addr) node c (hub_leads node c.addr) (hub_node node c.addr) there

    abbrev here : IsAtNode scene posts ended.closed.all node
    here = at_scene scene n posts r ended node c there

    pool_there : slice_index_or (in_pools ended.closed.all) node [] ≡ here.has.remains.pool
    pool_there =
        get_or_from_slice_get (in_pools ended.closed.all) node here.has.remains.pool []
        (slice_get-map (λ (m : PlainRemains). m.pool) ended.closed.all node ∙ ap (option_map (λ (m : PlainRemains). m.pool)) here.has.there)

    ordered : (put all_of given taken got left : ℕ) → put ≡ got + left → put ≡ all_of + given → got ≡ taken → all_of + given ≡ taken + left
    ordered put all_of given taken got left e f g = omega (arith, e, f, g)

    pub pool_told : IsPoolTold r node c.buffers (slice_index_or (in_pools ended.closed.all) node [])
    pool_told = record {
      given = flat_map (given_at node) (map log_of posts);
      taken = flat_map (taken_at node) (map log_of posts);
      kept = λ k.
          ordered (times k (put_at node posts)) (times k (range_with_len 0 c.buffers)) (times k (flat_map (given_at node) (map log_of posts))) (times k (flat_map (taken_at node) (map log_of posts))) (times k (remains.taken_at node posts))
          (times k here.has.remains.pool)
          (here.has.left.pool.whole k)
          (all_put scene n node k (parties_of scene) posts ended.net.parties
          ∙ ap (λ ns. times k ns + times k (flat_map (given_at node) (map log_of posts))) (one_gives (opened_here scene node) posts hub.at hub.post hub.there others_none ∙ hub_opens))
          (ap (times k) (all_taken scene n node (parties_of scene) posts ended.net.parties))
          ∙ ap (λ ns. times k (flat_map (taken_at node) (map log_of posts)) + times k ns) (sym pool_there);
      gives = ap (λ logs. flat_map (given_at node) logs) (sym ended.closed.told.parties);
      takes = ap (λ logs. flat_map (taken_at node) logs) (sym ended.closed.told.parties);
    }
