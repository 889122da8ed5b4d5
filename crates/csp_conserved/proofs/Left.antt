-- What a record says that the queues and the pool of a node held.
use Rattle.std.proofs.Common.{◌≡◌, ℕ, zero, suc, ◌+◌, ◌<◌, ◌≤◌, ◌==◌, ◌&&◌, Bool, true, false, Some, List, [], ◌∷◌, ◌++◌, map, length, slice_get, refl, sym, ◌∙◌, subst, arith}
use Rattle.std.proofs.lemmas.List.{length-map}
use Rattle.std.proofs.lemmas.Option.{same_Some}
use Rattle.std.specs.Prelude.{if◌then◌else◌, slice_index_or}
use Rattle.std.specs.List.{AllByRecursion, flat_map, range_with_len}
use Rattle.std.proofs.lemmas.Bool.{eq-eqb, eqb-true}
use Rattle.csp_conserved.proofs.Queues.{among, among_more}
use Rattle.csp_conserved.proofs.Sums.{over, over_both, over_hit, over_none, over_same}
use Rattle.csp_conserved.specs.Flow.{numbers_there}
use Rattle.csp_consistent.specs.Pools.{left_held, pools_held}
use Rattle.csp_consistent.specs.Reading.{is_queue, left_here}
use Rattle.csp_consistent.specs.Whole.{AreQueuesLeft, left_name, queue_name}
use Rattle.csp_deck.proofs.Public.{times-append}
use Rattle.csp_deck.specs.Carried.{places_of}
use Rattle.csp_deck.specs.Step.{times}
use Rattle.csp_lists.specs.Order.{lanes, places_in}
use Rattle.csp_lists.specs.PlainDeck.{numbers_of}
use Rattle.csp_log.specs.Kinds.{carried_on}
use Rattle.csp_log.specs.Remains.{PlainLeft}
use Rattle.csp_log.specs.declared.places.Place.{Place}
use Rattle.csp_log.specs.declared.places.Place.TheVariants as place
use Rattle.csp_log.specs.declared.places.QueueId.{QueueId}
use Rattle.csp_log.specs.declared.places.QueueId.TheVariants as queue
use Rattle.csp_record.specs.Record.{PlainRecord}
use Rattle.csp_scene.specs.Links.{links_at}
use Rattle.csp_scene.specs.Scene.{PlainLink, PlainNode, PlainScene}
use Rattle.csp_topology.specs.Plan.{plan_of, plans_from}
use Rattle.csp_topology.specs.Queues.{at_node, queues_from}

-- ---- pools

pools_later : (k node first : ℕ) (pools : List (List ℕ)) → node < first → times k (flat_map (numbers_there node) (pools_held first pools)) ≡ 0
pools_later k node first [] low = refl
pools_later k node first (numbers ∷ pools) low = by (first == node) refl (pools_later k node (first + 1) pools (omega (arith, low)))
  where
    by : (b : Bool) → (first == node) ≡ b → times k (flat_map (numbers_there node) (pools_held (first + 1) pools)) ≡ 0 → times k ((if b then numbers else []) ++ flat_map (numbers_there node) (pools_held (first + 1) pools)) ≡ 0
    by true e later = absurd (omega (arith, low, eqb-true first node e))
    by false e later = later

pub pool_there : (k node first j : ℕ) (pools : List (List ℕ)) → first + j ≡ node → times k (flat_map (numbers_there node) (pools_held first pools)) ≡ times k (slice_index_or pools j [])
pool_there k node first zero [] e = refl
pool_there k node first (suc j) [] e = refl
pool_there k node first zero (numbers ∷ pools) e =
    times-append k (if first == node then numbers else []) (flat_map (numbers_there node) (pools_held (first + 1) pools))
    ∙ by (first == node) (eq-eqb first node (omega (arith, e)))
  where
    by : (b : Bool) → b ≡ true → times k (if b then numbers else []) + times k (flat_map (numbers_there node) (pools_held (first + 1) pools)) ≡ times k numbers
    by true g = omega (arith, pools_later k node (first + 1) pools (omega (arith, e)))
    by false g = cc
pool_there k node first (suc j) (numbers ∷ pools) e = by (first == node) refl (pool_there k node (first + 1) j pools (omega (arith, e)))
  where
    by : (b : Bool) → (first == node) ≡ b → times k (flat_map (numbers_there node) (pools_held (first + 1) pools)) ≡ times k (slice_index_or pools j []) → times k ((if b then numbers else []) ++ flat_map (numbers_there node) (pools_held (first + 1) pools)) ≡ times k (slice_index_or pools j [])
    by true g later = absurd (omega (arith, e, eqb-true first node g))
    by false g later = later

-- ---- queues

-- a queue of a node with so many interfaces and applications, and what is said of its priority
abbrev IsQueueOf : (ifaces apps : ℕ) → QueueId → ℕ → Type 0
IsQueueOf ifaces apps (queue.Rx j) prio = (j < ifaces) × (prio ≡ 0)
IsQueueOf ifaces apps (queue.Tx j) prio = (j < ifaces) × (prio ≡ 0)
IsQueueOf ifaces apps (queue.Out j) prio = (j < ifaces) × (prio ≡ 0)
IsQueueOf ifaces apps (queue.Down j) prio = (j < apps) × (prio ≡ 0)
IsQueueOf ifaces apps (queue.Up j) prio = (j < apps) × (prio ≡ 0)
IsQueueOf ifaces apps queue.Inbox prio = prio < 4

abbrev IsNamedIn : (node ifaces apps : ℕ) → ℕ × QueueId × ℕ → Type 0
IsNamedIn node ifaces apps name = name.0 ≡ node → IsQueueOf ifaces apps name.1 name.2

lanes_named : (node home ifaces apps m a n : ℕ) (name : ℕ → QueueId) → a + n ≤ m → ((j : ℕ) → j < m → IsQueueOf ifaces apps (name j) 0)
    → AllByRecursion (IsNamedIn node ifaces apps) (map queue_name (at_node home (map (λ k. place.Lane (name k)) (range_with_len a n))))
lanes_named node home ifaces apps m a zero name few each = tt
lanes_named node home ifaces apps m a (suc n) name few each = ((λ e. each a (omega (arith, few))), lanes_named node home ifaces apps m (a + 1) n name (omega (arith, few)) each)

map_more : {X Y : Type 0} (P : Y → Type 0) (f : X → Y) (xs ys : List X) → AllByRecursion P (map f xs) → AllByRecursion P (map f ys) → AllByRecursion P (map f (xs ++ ys))
map_more P f [] ys one other = other
map_more P f (x ∷ xs) ys one other = (one.0, map_more P f xs ys one.1 other)

places_more : (P : ℕ × QueueId × ℕ → Type 0) (home : ℕ) (ps qs : List Place) → AllByRecursion P (map queue_name (at_node home ps)) → AllByRecursion P (map queue_name (at_node home qs)) → AllByRecursion P (map queue_name (at_node home (ps ++ qs)))
places_more P home [] qs one other = other
places_more P home (p ∷ ps) qs one other = (one.0, places_more P home ps qs one.1 other)

module _ (node ifaces apps : ℕ) where
  abbrev Named : ℕ × QueueId × ℕ → Type 0
  Named name = IsNamedIn node ifaces apps name

  own_places : (home : ℕ) → AllByRecursion Named (map queue_name (at_node home (places_in (record { ifaces = ifaces; apps = apps }))))
  own_places home =
      let up = lanes_named node home ifaces apps apps 0 apps queue.Up (omega arith) (λ j low. (low, refl)) in
      let down = lanes_named node home ifaces apps apps 0 apps queue.Down (omega arith) (λ j low. (low, refl)) in
      let out = lanes_named node home ifaces apps ifaces 0 ifaces queue.Out (omega arith) (λ j low. (low, refl)) in
      let tx = lanes_named node home ifaces apps ifaces 0 ifaces queue.Tx (omega arith) (λ j low. (low, refl)) in
      let rx = lanes_named node home ifaces apps ifaces 0 ifaces queue.Rx (omega arith) (λ j low. (low, refl)) in
      let inbox : AllByRecursion Named (map queue_name (at_node home (places_of queue.Inbox))) = ((λ e. omega arith), ((λ e. omega arith), ((λ e. omega arith), ((λ e. omega arith), tt)))) in
      places_more Named home (lanes queue.Rx ifaces) _ rx
      (places_more Named home (lanes queue.Tx ifaces) _ tx
      (places_more Named home (lanes queue.Out ifaces) _ out
      (places_more Named home (lanes queue.Down apps) _ down
      (places_more Named home (lanes queue.Up apps) _ up inbox))))

  other_places : (home : ℕ) (ps : List Place) → (home ≡ node → ⊥) → AllByRecursion Named (map queue_name (at_node home ps))
  other_places home [] other = tt
  other_places home (p ∷ ps) other = ((λ e. absurd (other e)), other_places home ps other)

-- the queues of a node of the scene
abbrev own_at : ℕ → PlainNode → List PlainLink → List Place
own_at place n links = let plan = plan_of n (links_at place links) in places_in (record { ifaces = length plan.lanes; apps = plan.apps })

named_later : (node ifaces apps first : ℕ) (nodes : List PlainNode) (links : List PlainLink) → node < first → AllByRecursion (IsNamedIn node ifaces apps) (map queue_name (queues_from first (plans_from first nodes links)))
named_later node ifaces apps first [] links low = tt
named_later node ifaces apps first (x ∷ nodes) links low =
    map_more (IsNamedIn node ifaces apps) queue_name (at_node first (own_at first x links)) (queues_from (first + 1) (plans_from (first + 1) nodes links))
    (other_places node ifaces apps first (own_at first x links) (λ e. omega (arith, low, e)))
    (named_later node ifaces apps (first + 1) nodes links (omega (arith, low)))

named_from : (node first j : ℕ) (n : PlainNode) (nodes : List PlainNode) (links : List PlainLink) → first + j ≡ node → slice_get nodes j ≡ Some n
    → AllByRecursion (IsNamedIn node (length (links_at node links)) (length n.apps)) (map queue_name (queues_from first (plans_from first nodes links)))
named_from node first j n [] links e there = absurd cc
named_from node first zero n (x ∷ nodes) links e there =
    let same : x ≡ n = same_Some x n there in
    let at : first ≡ node = omega (arith, e) in
    let named : List (ℕ × QueueId × ℕ) → Type 0 = AllByRecursion (IsNamedIn node (length (links_at node links)) (length n.apps)) in
    let count = length-map (links_at node links) (λ (l : PlainLink). carried_on l.kind) in
    let mine : named (map queue_name (at_node first (own_at first x links))) =
    subst (λ (y : PlainNode). named (map queue_name (at_node first (own_at first y links)))) (sym same)
    (subst (λ m. named (map queue_name (at_node first (own_at m n links)))) (sym at)
    (subst (λ ifaces. named (map queue_name (at_node first (places_in (record { ifaces = ifaces; apps = length n.apps }))))) (sym count) (own_places node (length (links_at node links)) (length n.apps) first))) in
    map_more (IsNamedIn node (length (links_at node links)) (length n.apps)) queue_name (at_node first (own_at first x links)) (queues_from (first + 1) (plans_from (first + 1) nodes links))
    mine (named_later node (length (links_at node links)) (length n.apps) (first + 1) nodes links (omega (arith, e)))
named_from node first (suc j) n (x ∷ nodes) links e there =
    map_more (IsNamedIn node (length (links_at node links)) (length n.apps)) queue_name (at_node first (own_at first x links)) (queues_from (first + 1) (plans_from (first + 1) nodes links))
    (other_places node (length (links_at node links)) (length n.apps) first (own_at first x links) (λ g. omega (arith, e, g)))
    (named_from node (first + 1) j n nodes links (omega (arith, e)) there)

-- what all queues of a node have, each with its priority
abbrev pub all_queues : (ifaces apps : ℕ) → (QueueId → ℕ → ℕ) → ℕ
all_queues ifaces apps v =
    over ifaces (λ j. v (queue.Rx j) 0) + over ifaces (λ j. v (queue.Tx j) 0) + over ifaces (λ j. v (queue.Out j) 0) + over apps (λ j. v (queue.Down j) 0) + over apps (λ j. v (queue.Up j) 0)
    + (v queue.Inbox 0 + v queue.Inbox 1 + v queue.Inbox 2 + v queue.Inbox 3)

queues_both : (ifaces apps : ℕ) (u v w : QueueId → ℕ → ℕ) → ((q : QueueId) (prio : ℕ) → u q prio ≡ v q prio + w q prio) → all_queues ifaces apps u ≡ all_queues ifaces apps v + all_queues ifaces apps w
queues_both ifaces apps u v w e =
    omega (
      arith,
      over_both ifaces (λ j. u (queue.Rx j) 0) (λ j. v (queue.Rx j) 0) (λ j. w (queue.Rx j) 0) (λ j low. e (queue.Rx j) 0),
      over_both ifaces (λ j. u (queue.Tx j) 0) (λ j. v (queue.Tx j) 0) (λ j. w (queue.Tx j) 0) (λ j low. e (queue.Tx j) 0),
      over_both ifaces (λ j. u (queue.Out j) 0) (λ j. v (queue.Out j) 0) (λ j. w (queue.Out j) 0) (λ j low. e (queue.Out j) 0),
      over_both apps (λ j. u (queue.Down j) 0) (λ j. v (queue.Down j) 0) (λ j. w (queue.Down j) 0) (λ j low. e (queue.Down j) 0),
      over_both apps (λ j. u (queue.Up j) 0) (λ j. v (queue.Up j) 0) (λ j. w (queue.Up j) 0) (λ j low. e (queue.Up j) 0),
      e queue.Inbox 0,
      e queue.Inbox 1,
      e queue.Inbox 2,
      e queue.Inbox 3,
    )

queues_none : (ifaces apps : ℕ) (u : QueueId → ℕ → ℕ) → ((q : QueueId) (prio : ℕ) → u q prio ≡ 0) → all_queues ifaces apps u ≡ 0
queues_none ifaces apps u e =
    omega (
      arith,
      over_none ifaces (λ j. u (queue.Rx j) 0) (λ j low. e (queue.Rx j) 0),
      over_none ifaces (λ j. u (queue.Tx j) 0) (λ j low. e (queue.Tx j) 0),
      over_none ifaces (λ j. u (queue.Out j) 0) (λ j low. e (queue.Out j) 0),
      over_none apps (λ j. u (queue.Down j) 0) (λ j low. e (queue.Down j) 0),
      over_none apps (λ j. u (queue.Up j) 0) (λ j low. e (queue.Up j) 0),
      e queue.Inbox 0,
      e queue.Inbox 1,
      e queue.Inbox 2,
      e queue.Inbox 3,
    )

-- a queue of the node is one of them
abbrev is_it : QueueId → ℕ → QueueId → ℕ → Bool
is_it q prio other p = is_queue q other && p == prio

lane_hit : (n j p x : ℕ) → j < n → p ≡ 0 → over n (λ i. if j == i && p == 0 then x else 0) ≡ x
lane_hit n j p x low e =
    over_same n (λ i. if j == i && p == 0 then x else 0) (λ i. if j == i then x else 0) (λ i h. by (j == i) (p == 0) (eq-eqb p 0 e))
    ∙ over_hit n j x low
  where
    by : (b c : Bool) → c ≡ true → (if b && c then x else 0) ≡ (if b then x else 0)
    by true true g = refl
    by false true g = refl
    by b false g = cc

zero_over : (n : ℕ) → over n (λ j. 0) ≡ 0
zero_over n = over_none n (λ j. 0) (λ j low. refl)

inbox_hit : (p x : ℕ) → p < 4 → (if p == 0 then x else 0) + (if p == 1 then x else 0) + (if p == 2 then x else 0) + (if p == 3 then x else 0) ≡ x
inbox_hit zero x low = omega arith
inbox_hit (suc zero) x low = omega arith
inbox_hit (suc (suc zero)) x low = omega arith
inbox_hit (suc (suc (suc zero))) x low = omega arith
inbox_hit (suc (suc (suc (suc p)))) x low = absurd (omega (arith, low))

one_queue : (ifaces apps : ℕ) (q : QueueId) (p x : ℕ) → IsQueueOf ifaces apps q p → all_queues ifaces apps (λ other prio. if is_it other prio q p then x else 0) ≡ x
one_queue ifaces apps (queue.Rx j) p x h = omega (arith, lane_hit ifaces j p x h.0 h.1, zero_over ifaces, zero_over apps)
one_queue ifaces apps (queue.Tx j) p x h = omega (arith, lane_hit ifaces j p x h.0 h.1, zero_over ifaces, zero_over apps)
one_queue ifaces apps (queue.Out j) p x h = omega (arith, lane_hit ifaces j p x h.0 h.1, zero_over ifaces, zero_over apps)
one_queue ifaces apps (queue.Down j) p x h = omega (arith, lane_hit apps j p x h.0 h.1, zero_over ifaces, zero_over apps)
one_queue ifaces apps (queue.Up j) p x h = omega (arith, lane_hit apps j p x h.0 h.1, zero_over ifaces, zero_over apps)
one_queue ifaces apps queue.Inbox p x h = omega (arith, inbox_hit p x h, zero_over ifaces, zero_over apps)

module _ (k node ifaces apps : ℕ) where
  -- what was left in one queue, where it is one of the node
  left_one : (l : PlainLeft) → IsNamedIn node ifaces apps (left_name l) → all_queues ifaces apps (λ q prio. among k (left_here node q prio l)) ≡ times k (numbers_there node (left_held l))
  left_one l named = by (l.node == node) refl
    where
      some : (b : Bool) → among k (if b then l.items else []) ≡ (if b then among k l.items else 0) + 0
      some true = omega arith
      some false = refl

      by : (b : Bool) → (l.node == node) ≡ b → all_queues ifaces apps (λ q prio. among k (if b && is_queue q l.queue && l.prio == prio then l.items else [])) ≡ times k (if b then numbers_of l.items else [])
      by false e = queues_none ifaces apps (λ q prio. 0) (λ q prio. refl)
      by true e =
          queues_both ifaces apps (λ q prio. among k (if is_it q prio l.queue l.prio then l.items else [])) (λ q prio. if is_it q prio l.queue l.prio then among k l.items else 0) (λ q prio. 0)
          (λ q prio. some (is_it q prio l.queue l.prio))
          ∙ (omega (arith, queues_none ifaces apps (λ q prio. 0) (λ q prio. refl), one_queue ifaces apps l.queue l.prio (among k l.items) (named (eqb-true l.node node e))))

  all_left : (ls : List PlainLeft) → AllByRecursion (λ l. IsNamedIn node ifaces apps (left_name l)) ls
      → times k (flat_map (numbers_there node) (map left_held ls)) ≡ all_queues ifaces apps (λ q prio. among k (flat_map (left_here node q prio) ls))
  all_left [] h = sym (queues_none ifaces apps (λ q prio. 0) (λ q prio. refl))
  all_left (l ∷ ls) h =
      omega (
        arith,
        times-append k (numbers_there node (left_held l)) (flat_map (numbers_there node) (map left_held ls)),
        left_one l h.0,
        all_left ls h.1,
        queues_both ifaces apps (λ q prio. among k (flat_map (left_here node q prio) (l ∷ ls))) (λ q prio. among k (left_here node q prio l)) (λ q prio. among k (flat_map (left_here node q prio) ls))
            (λ q prio. among_more k (left_here node q prio l) (flat_map (left_here node q prio) ls)),
      )

unmapped : {X Y : Type 0} (P : Y → Type 0) (f : X → Y) (xs : List X) → AllByRecursion P (map f xs) → AllByRecursion (λ x. P (f x)) xs
unmapped P f [] h = tt
unmapped P f (x ∷ xs) h = (h.0, unmapped P f xs h.1)

-- what a record says that the queues of a node held
pub left_there : (k : ℕ) (scene : PlainScene) (r : PlainRecord) (node : ℕ) (n : PlainNode) → slice_get scene.nodes node ≡ Some n → AreQueuesLeft scene r
    → times k (flat_map (numbers_there node) (map left_held r.left)) ≡ all_queues (length (links_at node scene.links)) (length n.apps) (λ q prio. among k (flat_map (left_here node q prio) r.left))
left_there k scene r node n there left =
    all_left k node (length (links_at node scene.links)) (length n.apps) r.left
    (unmapped (IsNamedIn node (length (links_at node scene.links)) (length n.apps)) left_name r.left
    (subst (AllByRecursion (IsNamedIn node (length (links_at node scene.links)) (length n.apps))) (sym left) (named_from node 0 node n scene.nodes scene.links (omega arith) there)))
