-- What the places of a node hold together at the end are all its buffers, each once.
use Rattle.std.proofs.Common.{◌≡◌, ◌+◌, ◌<◌, ◌==◌, ℕ, zero, suc, Bool, true, false, Option, None, Some, List, [], ◌∷◌, ◌++◌, length, map, flat_map, sum_by, refl, sym, ap, ◌∙◌, arith, slice_get}
use Rattle.std.specs.List.{range_with_len}
use Rattle.std.specs.Option.{option_map, option_to_list}
use Rattle.std.specs.Prelude.{if◌then◌else◌}
use Rattle.std.proofs.lemmas.Bool.{eq-eqb, ne_eqb}
use Rattle.std.proofs.lemmas.Grind.{flat_map-append}
use Rattle.std.proofs.lemmas.List.Sums.{sum_by-append, sum_by-cons}
use Rattle.std.proofs.lemmas.List.{append-nil, append_assoc}
use Rattle.std.proofs.lemmas.Option.{same_Some, slice_get-map}
use Rattle.csp_base.specs.declared.priority.Prio.TheVariants.{Critical, High, Normal, Low}
use Rattle.csp_consistent.specs.Pools.{held_by, is_node, left_held, pools_held}
use Rattle.csp_deck.specs.Step.{item_numbers, times}
use Rattle.csp_lists.specs.PlainDeck.{numbers_of}
use Rattle.csp_log.specs.Remains.{PlainHeld, PlainLeft}
use Rattle.csp_log.specs.declared.places.Place.TheVariants as place
use Rattle.csp_log.specs.declared.places.Place.{Place}
use Rattle.csp_log.specs.declared.shown.ItemShown.{ItemShown}
use Rattle.csp_party.specs.Any.{holds}
use Rattle.csp_posts.specs.Between.{is_home}
use Rattle.csp_posts.specs.Posts.{PlainPost}
use Rattle.csp_record.specs.Record.{PlainRecord}
use Rattle.csp_log.specs.Who.{home_of, node_of}
use Rattle.csp_record.specs.Whole.{IsWhole, weight_at}
use Rattle.csp_scene.specs.Scene.{PlainNode, PlainScene}
use Rattle.csp_standing.proofs.Public.{mapped_at, at_home}
use Rattle.csp_standing.specs.Network.{ArePostsOf, PlainNetwork}
use Rattle.csp_telling.proofs.NodeNotes.{of_node}
use Rattle.csp_telling.proofs.Nodes.{IsAtNode, IsEnded, at_scene}
use Rattle.csp_telling.proofs.PoolsLeft.{in_pools}
use Rattle.csp_telling.specs.Closed.{all_notes, inbox_notes, lane_notes, post_held}
use Rattle.csp_telling.specs.Remains.{AreRemains, PlainRemains, held_at, inbox_numbers, returned}
use Rattle.csp_topology.specs.Lanes.{PlainLane}
use Rattle.csp_topology.specs.Parties.{PlainOpening, parties_of}
use Rattle.csp_topology.specs.Wires.{wires_of}

-- what csp_lists says of lists that have each number as often
abbrev pub Weighs : Type 0
Weighs = (xs ys : List ℕ) → ((k : ℕ) → times k xs ≡ times k ys) → (weight : ℕ → ℕ) → sum_by weight xs ≡ sum_by weight ys

-- what `returns_all` says of what was left
abbrev pub Returns : PlainScene → List PlainPost → Type 0
Returns scene posts = (all : List PlainRemains) → AreRemains scene posts all → (node : ℕ) (c : PlainNode) (m : PlainRemains) → slice_get scene.nodes node ≡ Some c → slice_get all node ≡ Some m
    → (k : ℕ) → times k (returned node m posts) ≡ times k (range_with_len 0 c.buffers)

-- ---- the queues

-- the numbers that a note tells of a node
abbrev numbers_there : ℕ → PlainLeft → List ℕ
numbers_there node l = (if l.node == node then numbers_of l.items else [])

if_weighs : (b : Bool) (weight : ℕ → ℕ) (ns : List ℕ) → (if b then sum_by weight ns else 0) ≡ sum_by weight (if b then ns else [])
if_weighs true weight ns = refl
if_weighs false weight ns = refl

notes_weigh : (node : ℕ) (weight : ℕ → ℕ) (notes : List PlainLeft) → sum_by (weight_at node weight) (map left_held notes) ≡ sum_by weight (flat_map (numbers_there node) notes)
notes_weigh node weight [] = refl
notes_weigh node weight (l ∷ notes) =
    sum_by-cons (weight_at node weight) (left_held l) (map left_held notes)
    ∙ (λ i. if_weighs (l.node == node) weight (numbers_of l.items) i + notes_weigh node weight notes i)
    ∙ sym (sum_by-append weight (numbers_there node l) (flat_map (numbers_there node) notes))

lane_numbers : (node : ℕ) (ls : List PlainLane) (lefts : List (List ItemShown)) → length lefts ≡ length ls → flat_map (numbers_there node) (lane_notes node ls lefts) ≡ flat_map numbers_of lefts
lane_numbers node [] [] e = refl
lane_numbers node [] (is ∷ lefts) e = absurd cc
lane_numbers node (l ∷ ls) [] e = absurd cc
lane_numbers node (l ∷ ls) (is ∷ lefts) e = λ i. ap (λ t. if t then numbers_of is else []) (eq-eqb node node refl) i ++ lane_numbers node ls lefts (omega (arith, e)) i

four_numbers : (a b c d : List ItemShown) → numbers_of a ++ (numbers_of b ++ (numbers_of c ++ (numbers_of d ++ []))) ≡ numbers_of (a ++ b ++ c ++ d)
four_numbers a b c d =
    ap (λ ns. numbers_of a ++ (numbers_of b ++ (numbers_of c ++ ns))) (append-nil (numbers_of d))
    ∙ sym (append_assoc (numbers_of a) (numbers_of b) (numbers_of c ++ numbers_of d))
    ∙ sym (append_assoc (numbers_of a ++ numbers_of b) (numbers_of c) (numbers_of d))
    ∙ ap (λ ns. ns ++ numbers_of c ++ numbers_of d) (sym (flat_map-append item_numbers a b))
    ∙ ap (λ ns. ns ++ numbers_of d) (sym (flat_map-append item_numbers (a ++ b) c))
    ∙ sym (flat_map-append item_numbers (a ++ b ++ c) d)

inbox_noted : (node : ℕ) (m : PlainRemains) → flat_map (numbers_there node) (inbox_notes node m.inbox) ≡ inbox_numbers m
inbox_noted node m = rw (eq-eqb node node refl) (four_numbers (m.inbox Critical) (m.inbox High) (m.inbox Normal) (m.inbox Low))

queues_weigh : (node : ℕ) (weight : ℕ → ℕ) (wires : List (List PlainLane)) (all : List PlainRemains) (ls : List PlainLane) (m : PlainRemains) → slice_get wires node ≡ Some ls → slice_get all node ≡ Some m → length m.lanes ≡ length ls
    → sum_by (weight_at node weight) (map left_held (all_notes 0 wires all)) ≡ sum_by weight (flat_map numbers_of m.lanes) + sum_by weight (inbox_numbers m)
queues_weigh node weight wires all ls m at there same =
    notes_weigh node weight (all_notes 0 wires all)
    ∙ ap (sum_by weight) (of_node node (numbers_there node) (λ l e. rw e refl) wires all ls m at there ∙ (λ i. lane_numbers node ls m.lanes same i ++ inbox_noted node m i))
    ∙ sum_by-append weight (flat_map numbers_of m.lanes) (inbox_numbers m)

-- ---- the parties

if_and : (b : Bool) (weight : ℕ → ℕ) (ns : List ℕ) → (if b then sum_by weight ns else 0) + 0 ≡ sum_by weight (if b then ns else [])
if_and true weight ns = omega arith
if_and false weight ns = refl

placed_weighs : (node : ℕ) (weight : ℕ → ℕ) (ns : List ℕ) (home : Option (ℕ × Place))
    → sum_by (weight_at node weight) (option_to_list (option_map (held_by ns) home)) ≡ sum_by weight (if is_node node (option_map (λ (h : ℕ × Place). h.0) home) then ns else [])
placed_weighs node weight ns None = refl
placed_weighs node weight ns (Some h) = sum_by-cons (weight_at node weight) (held_by ns h) [] ∙ if_and (h.0 == node) weight ns

posts_weigh : (scene : PlainScene) (n : PlainNetwork) (node : ℕ) (weight : ℕ → ℕ) (os : List PlainOpening) (posts : List PlainPost) → ArePostsOf scene n os posts
    → sum_by (weight_at node weight) (flat_map post_held posts) ≡ sum_by weight (held_at node posts)
posts_weigh scene n node weight [] [] are = refl
posts_weigh scene n node weight (o ∷ os) (s ∷ posts) are =
    sum_by-append (weight_at node weight) (post_held s) (flat_map post_held posts)
    ∙ (λ i. (placed_weighs node weight (holds s.party) (home_of s.who)
    ∙ ap (λ t. sum_by weight (if t then holds s.party else [])) (sym (at_home node s.ends.home (node_of s.who) (are.0.home.node ∙ ap node_of (sym are.0.who))))) i
    + posts_weigh scene n node weight os posts are.1 i)
    ∙ sym (sum_by-append weight (if is_home node s.ends.home then holds s.party else []) (held_at node posts))
posts_weigh scene n node weight [] (s ∷ posts) are = absurd are
posts_weigh scene n node weight (o ∷ os) [] are = absurd are

-- ---- the pools

abbrev in_pool : ℕ → List ℕ → PlainHeld
in_pool node numbers = record { node = node; place = place.Pool; numbers = numbers }

pools_after : (node : ℕ) (weight : ℕ → ℕ) (first : ℕ) (pools : List (List ℕ)) → node < first → sum_by (weight_at node weight) (pools_held first pools) ≡ 0
pools_after node weight first [] h = refl
pools_after node weight first (ns ∷ pools) h =
    sum_by-cons (weight_at node weight) (in_pool first ns) (pools_held (first + 1) pools)
    ∙ (λ i. (if ne_eqb first node (λ e. omega (arith, h, e)) i then sum_by weight ns else 0) + pools_after node weight (first + 1) pools (omega (arith, h)) i)

pools_weigh : (node : ℕ) (weight : ℕ → ℕ) (first k : ℕ) (pools : List (List ℕ)) (ns : List ℕ) → slice_get pools k ≡ Some ns → first + k ≡ node → sum_by (weight_at node weight) (pools_held first pools) ≡ sum_by weight ns
pools_weigh node weight first k [] ns at e = absurd cc
pools_weigh node weight first zero (xs ∷ pools) ns at e =
    sum_by-cons (weight_at node weight) (in_pool first xs) (pools_held (first + 1) pools)
    ∙ (λ i. (if eq-eqb first node (omega (arith, e)) i then sum_by weight xs else 0) + pools_after node weight (first + 1) pools (omega (arith, e)) i)
    ∙ omega arith
    ∙ ap (sum_by weight) (same_Some xs ns at)
pools_weigh node weight first (suc k) (xs ∷ pools) ns at e =
    sum_by-cons (weight_at node weight) (in_pool first xs) (pools_held (first + 1) pools)
    ∙ (λ i. (if ne_eqb first node (λ g. omega (arith, e, g)) i then sum_by weight xs else 0) + pools_weigh node weight (first + 1) k pools ns at (omega (arith, e)) i)
    ∙ omega arith

-- ---- together

module _ (scene : PlainScene) (n : PlainNetwork) (posts : List PlainPost) (r : PlainRecord) (ended : IsEnded scene n posts r) (node : ℕ) (c : PlainNode) (there : slice_get scene.nodes node ≡ Some c) (weight : ℕ → ℕ) where
  abbrev here : IsAtNode scene posts ended.closed.all node
  here = at_scene scene n posts r ended node c there

  abbrev m : PlainRemains
  m = here.has.remains

  summed : (held queues rest parties pools lanes inbox : ℕ) → held ≡ queues + rest → rest ≡ parties + pools → queues ≡ lanes + inbox → held ≡ pools + (lanes + (inbox + parties))
  summed held queues rest parties pools lanes inbox e f g = omega (arith, e, f, g)

  held_weighs : sum_by (weight_at node weight) r.held ≡ sum_by weight m.pool + (sum_by weight (flat_map numbers_of m.lanes) + (sum_by weight (inbox_numbers m) + sum_by weight (held_at node posts)))
  held_weighs =
      ap (sum_by (weight_at node weight)) (ended.closed.told.held ∙ ap (λ (left : List PlainLeft). map left_held left ++ (flat_map post_held posts ++ pools_held 0 (in_pools ended.closed.all))) ended.closed.told.left)
      ∙ summed _ _ _ _ _ _ _
      (sum_by-append (weight_at node weight) (map left_held (all_notes 0 (wires_of scene) ended.closed.all)) (flat_map post_held posts ++ pools_held 0 (in_pools ended.closed.all)))
      (sum_by-append (weight_at node weight) (flat_map post_held posts) (pools_held 0 (in_pools ended.closed.all))
      ∙ (λ i. posts_weigh scene n node weight (parties_of scene) posts ended.net.parties i
      + pools_weigh node weight 0 node (in_pools ended.closed.all) m.pool (slice_get-map (λ (x : PlainRemains). x.pool) ended.closed.all node ∙ ap (option_map (λ (x : PlainRemains). x.pool)) here.has.there) (omega arith) i))
      (queues_weigh node weight (wires_of scene) ended.closed.all here.lanes m here.at here.has.there here.has.many)

  returned_weighs : sum_by weight (returned node m posts) ≡ sum_by weight m.pool + (sum_by weight (flat_map numbers_of m.lanes) + (sum_by weight (inbox_numbers m) + sum_by weight (held_at node posts)))
  returned_weighs =
      sum_by-append weight m.pool (flat_map numbers_of m.lanes ++ (inbox_numbers m ++ held_at node posts))
      ∙ ap (λ k. sum_by weight m.pool + k) (sum_by-append weight (flat_map numbers_of m.lanes) (inbox_numbers m ++ held_at node posts))
      ∙ ap (λ k. sum_by weight m.pool + (sum_by weight (flat_map numbers_of m.lanes) + k)) (sum_by-append weight (inbox_numbers m) (held_at node posts))

  node_whole : Weighs → Returns scene posts → sum_by (weight_at node weight) r.held ≡ sum_by weight (range_with_len 0 c.buffers)
  node_whole weighs returns =
      held_weighs ∙ sym returned_weighs
      ∙ weighs (returned node m posts) (range_with_len 0 c.buffers) (returns ended.closed.all ended.closed.remains node c m there here.has.there) weight

pub whole : (scene : PlainScene) (n : PlainNetwork) (posts : List PlainPost) (r : PlainRecord) → IsEnded scene n posts r → Weighs → Returns scene posts → IsWhole (map (λ (c : PlainNode). c.buffers) scene.nodes) r
whole scene n posts r ended weighs returns node count at weight =
    let c = mapped_at (λ (x : PlainNode). x.buffers) scene.nodes node count at in
    node_whole scene n posts r ended node c.0 c.1 weight weighs returns ∙ ap (λ k. sum_by weight (range_with_len 0 k)) c.2
