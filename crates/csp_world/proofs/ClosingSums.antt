-- What the places of a node hold together at the end.
use Rattle.std.proofs.Common.{◌≡◌, ◌≢◌, ℕ, zero, suc, ◌+◌, ◌<◌, Bool, true, false, Option, None, Some, List, [], ◌∷◌, ◌++◌, map, refl, sym, ◌∙◌, ap, arith, sum_by}
use Rattle.std.specs.Prelude.{slice_get, if◌then◌else◌, ◌==◌}
use Rattle.std.specs.List.{flat_map, range_with_len}
use Rattle.std.specs.Option.{option_map, option_to_list}
use Rattle.std.proofs.lemmas.Bool.Decides.{nat_tests}
use Rattle.std.proofs.lemmas.List.Sums.{sum_by-append, sum_by-cons}
use Rattle.std.proofs.lemmas.Option.{slice_get-map}
use Rattle.csp_buffer.specs.Content.{Content}
use Rattle.csp_lists.specs.Gathered.{queued_numbers, held_at}
use Rattle.csp_lists.specs.PlainDeck.{PlainDeck, PlainQueue, buffer_numbers, numbers_of, numbers_among, numbers_in}
use Rattle.csp_lists.specs.PlainFifo.{PlainFifo}
use Rattle.csp_deck.specs.Step.{times}
use Rattle.csp_log.specs.declared.places.Place.{Place}
use Rattle.csp_log.specs.declared.places.Place.TheVariants as place
use Rattle.csp_log.specs.Remains.{PlainHeld}
use Rattle.csp_party.specs.Any.{holds}
use Rattle.csp_log.specs.Who.{home_of}
use Rattle.csp_record.specs.Whole.{weight_at, IsWhole}
use Rattle.csp_nodes.specs.Gathering.{queues_held, pools_held}
use Rattle.csp_world.specs.Holders.{is_home, holds_at, counts, IsConserved}
use Rattle.csp_consistent.specs.Pools.{held_by}
use Rattle.csp_world.specs.Record.{member_held, record_of}
use Rattle.csp_world.specs.World.{PlainMember, PlainWorld}
use Rattle.csp_nodes.proofs.Public.{Gathers, Weighs, times_joined}

-- all numbers of a node: those in its queues, those of its parties and those in its pool
abbrev pub all_numbers : List PlainMember → ℕ → PlainDeck → List ℕ
all_numbers ms node d = queued_numbers d ++ (flat_map (holds_at node) ms ++ buffer_numbers d.pool.items)

-- each number of the node is among them once
pub once_each : (w : PlainWorld) → Gathers → IsConserved w → (node : ℕ) (d : PlainDeck) → slice_get w.decks node ≡ Some d → (k : ℕ)
    → times k (all_numbers w.members node d) ≡ times k (range_with_len 0 d.pool.room)
once_each w gathers conserved node d e k =
    ordered _ _ _ _ _ _ _ _
    (times_joined k (queued_numbers d) (flat_map (holds_at node) w.members ++ buffer_numbers d.pool.items))
    (times_joined k (flat_map (holds_at node) w.members) (buffer_numbers d.pool.items))
    (times_joined k (numbers_in d) (flat_map (holds_at node) w.members))
    (gathers d k)
    (conserved node d e k)
  where
    ordered : (all part at n q f p r : ℕ) → all ≡ q + part → part ≡ f + p → at ≡ n + f → p + q ≡ n → at ≡ r → all ≡ r
    ordered all part at n q f p r a b c g h = omega arith

equal : (a b : ℕ) → a ≡ b → (a == b) ≡ true
equal a b h = grind (arith, nat_tests)

unequal : (a b : ℕ) → a ≢ b → (a == b) ≡ false
unequal a b h = grind (arith, nat_tests)

no_sum : (b : Bool) → ◌≡◌ {A = ℕ} 0 (if b then 0 else 0)
no_sum true = refl
no_sum false = refl

more_sum : (b : Bool) (x y m n a : ℕ) → m ≡ (if b then x else 0) + n → n ≡ (if b then y else 0) → a ≡ x + y → m ≡ (if b then a else 0)
more_sum true x y m n a e f g = omega arith
more_sum false x y m n a e f g = omega arith

-- the queues of a node count for it, and for no other
queues_weigh : (node : ℕ) (weight : ℕ → ℕ) (first : ℕ) (qs : List PlainQueue)
    → sum_by (weight_at node weight) (map (held_at first) qs) ≡ (if first == node then sum_by weight (numbers_among qs) else 0)
queues_weigh node weight first [] = no_sum (first == node)
queues_weigh node weight first (q ∷ qs) =
    more_sum (first == node) (sum_by weight (numbers_of q.items)) (sum_by weight (numbers_among qs)) _ _ _
    (sum_by-cons (weight_at node weight) (held_at first q) (map (held_at first) qs))
    (queues_weigh node weight first qs)
    (sum_by-append weight (numbers_of q.items) (numbers_among qs))

other_if : (b : Bool) (a x s n : ℕ) → a ≡ x + s → x ≡ (if b then n else 0) → b ≡ false → s ≡ 0 → a ≡ 0
other_if true a x s n e f g h = cc
other_if false a x s n e f g h = omega arith

rest_if : (b : Bool) (a x s n m : ℕ) → a ≡ x + s → x ≡ (if b then n else 0) → b ≡ false → s ≡ m → a ≡ m
rest_if true a x s n m e f g h = cc
rest_if false a x s n m e f g h = omega arith

own_if : (b : Bool) (a x s n : ℕ) → a ≡ x + s → x ≡ (if b then n else 0) → b ≡ true → s ≡ 0 → a ≡ n
own_if true a x s n e f g h = omega arith
own_if false a x s n e f g h = cc

queues_after : (node : ℕ) (weight : ℕ → ℕ) (first : ℕ) (ds : List PlainDeck) → node < first → sum_by (weight_at node weight) (queues_held first ds) ≡ 0
queues_after node weight first [] h = refl
queues_after node weight first (d ∷ ds) h =
    other_if (first == node) _ _ _ _ (sum_by-append (weight_at node weight) (map (held_at first) d.queues) (queues_held (first + 1) ds))
    (queues_weigh node weight first d.queues) (unequal first node (omega arith)) (queues_after node weight (first + 1) ds (omega arith))

queues_here : (node : ℕ) (weight : ℕ → ℕ) (first k : ℕ) (ds : List PlainDeck) (d : PlainDeck) → slice_get ds k ≡ Some d → first + k ≡ node
    → sum_by (weight_at node weight) (queues_held first ds) ≡ sum_by weight (queued_numbers d)
queues_here node weight first zero [] d e f = cc
queues_here node weight first (suc k) [] d e f = cc
queues_here node weight first zero (x ∷ ds) d e f =
    let same : x ≡ d = cc in
    own_if (first == node) _ _ _ _ (sum_by-append (weight_at node weight) (map (held_at first) x.queues) (queues_held (first + 1) ds))
    (queues_weigh node weight first x.queues) (equal first node (omega arith)) (queues_after node weight (first + 1) ds (omega arith))
    ∙ ap (λ y. sum_by weight (queued_numbers y)) same
queues_here node weight first (suc k) (x ∷ ds) d e f =
    rest_if (first == node) _ _ _ _ _ (sum_by-append (weight_at node weight) (map (held_at first) x.queues) (queues_held (first + 1) ds))
    (queues_weigh node weight first x.queues) (unequal first node (omega arith)) (queues_here node weight (first + 1) k ds d e (omega arith))

-- and so does its pool
abbrev in_pool : ℕ → PlainFifo Content → PlainHeld
in_pool node pool = record { node = node; place = place.Pool; numbers = buffer_numbers pool.items }

pools_after : (node : ℕ) (weight : ℕ → ℕ) (first : ℕ) (ds : List PlainDeck) → node < first → sum_by (weight_at node weight) (pools_held first (map (λ d. d.pool) ds)) ≡ 0
pools_after node weight first [] h = refl
pools_after node weight first (d ∷ ds) h =
    other_if (first == node) _ _ _ (sum_by weight (buffer_numbers d.pool.items)) (sum_by-cons (weight_at node weight) (in_pool first d.pool) (pools_held (first + 1) (map (λ d. d.pool) ds)))
    refl (unequal first node (omega arith)) (pools_after node weight (first + 1) ds (omega arith))

pools_here : (node : ℕ) (weight : ℕ → ℕ) (first k : ℕ) (ds : List PlainDeck) (d : PlainDeck) → slice_get ds k ≡ Some d → first + k ≡ node
    → sum_by (weight_at node weight) (pools_held first (map (λ d. d.pool) ds)) ≡ sum_by weight (buffer_numbers d.pool.items)
pools_here node weight first zero [] d e f = cc
pools_here node weight first (suc k) [] d e f = cc
pools_here node weight first zero (x ∷ ds) d e f =
    let same : x ≡ d = cc in
    own_if (first == node) _ _ _ (sum_by weight (buffer_numbers x.pool.items)) (sum_by-cons (weight_at node weight) (in_pool first x.pool) (pools_held (first + 1) (map (λ d. d.pool) ds)))
    refl (equal first node (omega arith)) (pools_after node weight (first + 1) ds (omega arith))
    ∙ ap (λ y. sum_by weight (buffer_numbers y.pool.items)) same
pools_here node weight first (suc k) (x ∷ ds) d e f =
    rest_if (first == node) _ _ _ (sum_by weight (buffer_numbers x.pool.items)) _ (sum_by-cons (weight_at node weight) (in_pool first x.pool) (pools_held (first + 1) (map (λ d. d.pool) ds)))
    refl (unequal first node (omega arith)) (pools_here node weight (first + 1) k ds d e (omega arith))

-- and so do its parties
sum_if : (b : Bool) (weight : ℕ → ℕ) (ns : List ℕ) → (if b then sum_by weight ns else 0) + 0 ≡ sum_by weight (if b then ns else [])
sum_if true weight ns = omega arith
sum_if false weight ns = refl

placed_weighs : (node : ℕ) (weight : ℕ → ℕ) (ns : List ℕ) (home : Option (ℕ × Place))
    → sum_by (weight_at node weight) (option_to_list (option_map (held_by ns) home)) ≡ sum_by weight (if is_home node (option_map (λ (h : ℕ × Place). h.0) home) then ns else [])
placed_weighs node weight ns None = refl
placed_weighs node weight ns (Some h) = sum_by-cons (weight_at node weight) (held_by ns h) [] ∙ sum_if (h.0 == node) weight ns

members_weigh : (node : ℕ) (weight : ℕ → ℕ) (ms : List PlainMember) → sum_by (weight_at node weight) (flat_map member_held ms) ≡ sum_by weight (flat_map (holds_at node) ms)
members_weigh node weight [] = refl
members_weigh node weight (m ∷ ms) =
    sum_by-append (weight_at node weight) (member_held m) (flat_map member_held ms)
    ∙ ap (λ n. n + sum_by (weight_at node weight) (flat_map member_held ms)) (placed_weighs node weight (holds m.party) (home_of m.who))
    ∙ ap (λ n. sum_by weight (holds_at node m) + n) (members_weigh node weight ms)
    ∙ sym (sum_by-append weight (holds_at node m) (flat_map (holds_at node) ms))

-- together they weigh what the numbers of the node weigh
node_weighs : (w : PlainWorld) (node : ℕ) (weight : ℕ → ℕ) (d : PlainDeck) → slice_get w.decks node ≡ Some d
    → sum_by (weight_at node weight) (record_of w).held ≡ sum_by weight (all_numbers w.members node d)
node_weighs w node weight d e =
    let queues = queues_held 0 w.decks in
    let members = flat_map member_held w.members in
    let pools = pools_held 0 (map (λ d. d.pool) w.decks) in
    let taken = flat_map (holds_at node) w.members in
    let pooled = buffer_numbers d.pool.items in
    joined _ _ _ _ _ _ _ _
    (sum_by-append (weight_at node weight) queues (members ++ pools))
    (sum_by-append (weight_at node weight) members pools)
    (queues_here node weight 0 node w.decks d e (omega arith))
    (members_weigh node weight w.members)
    (pools_here node weight 0 node w.decks d e (omega arith))
    ∙ sym (sum_by-append weight (queued_numbers d) (taken ++ pooled) ∙ ap (λ n. sum_by weight (queued_numbers d) + n) (sum_by-append weight taken pooled))
  where
    joined : (all part q m p x y z : ℕ) → all ≡ q + part → part ≡ m + p → q ≡ x → m ≡ y → p ≡ z → all ≡ x + (y + z)
    joined all part q m p x y z a b c g h = omega arith

-- the record of a world that is conserved is whole
pub whole : (w : PlainWorld) → Gathers → Weighs → IsConserved w → IsWhole (counts w) (record_of w)
whole w gathers weighs conserved node count e = at (slice_get w.decks node) refl (sym (slice_get-map (λ (d : PlainDeck). d.pool.room) w.decks node) ∙ e) where
  at : (o : Option PlainDeck) → slice_get w.decks node ≡ o → option_map (λ (d : PlainDeck). d.pool.room) o ≡ Some count → (weight : ℕ → ℕ) → sum_by (weight_at node weight) (record_of w).held ≡ sum_by weight (range_with_len 0 count)
  at None f g weight = cc
  at (Some d) f g weight =
      let room : d.pool.room ≡ count = cc in
      node_weighs w node weight d f ∙ weighs (all_numbers w.members node d) (range_with_len 0 d.pool.room) (once_each w gathers conserved node d f) weight ∙ ap (λ n. sum_by weight (range_with_len 0 n)) room
