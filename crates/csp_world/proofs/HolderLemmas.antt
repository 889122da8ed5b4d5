-- Each number of a node is in one place of it: a turn moves it, and neither makes nor loses one.
use Rattle.std.proofs.Common.{◌≡◌, ℕ, zero, suc, ◌+◌, ◌<◌, ◌≤◌, ◌==◌, Bool, true, false, cond, Option, None, Some, List, [], ◌∷◌, ◌++◌, length, set, refl, sym, ◌∙◌, ap, subst, arith, sum_by}
use Rattle.std.specs.Prelude.{slice_get}
use Rattle.std.specs.List.{range_with_len, flat_map}
use Rattle.std.specs.Option.{option_map}
use Rattle.std.proofs.lemmas.List.{length-append, length-replicate}
use Rattle.std.proofs.lemmas.List.Sums.{sum_by-cons}
use Rattle.std.proofs.lemmas.Option.{slice_get-map}
use Rattle.std.proofs.lemmas.Bool.Decides.{nat_tests}
use Rattle.csp_lists.specs.PlainDeck.{PlainDeck, holders_of, numbers_in}
use Rattle.csp_deck.specs.Step.{times}
use Rattle.csp_log.specs.declared.places.Place.{Place}
use Rattle.csp_log.specs.Who.{home_of}
use Rattle.csp_world.specs.Inside.{rooms}
use Rattle.csp_world.specs.Holders.{is_at, is_home, holds_at, holder_at, places_held, deck_holders, holders, counts, HasOneHolder, numbers_at, IsConserved}
use Rattle.csp_world.specs.World.{PlainMember, PlainWorld}
use Rattle.csp_nodes.proofs.Public.{times_joined, sum_set}

times-cons : (k x : ℕ) (xs : List ℕ) → times k (x ∷ xs) ≡ cond (x == k) 1 0 + times k xs
times-cons k x xs = sum_by-cons (λ n. cond (n == k) 1 0) x xs

-- a number below the end of a range is in it once, one before its start never
before : (k a n : ℕ) → k < a → times k (range_with_len a n) ≡ 0
before k a zero h = refl
before k a (suc n) h =
    let apart : (a == k) ≡ false = grind (arith, nat_tests) in
    let rest = before k (a + 1) n (omega arith) in
    times-cons k a (range_with_len (a + 1) n) ∙ (rw (apart, rest) refl)

once_from : (k a n : ℕ) → a ≤ k → k < a + n → times k (range_with_len a n) ≡ 1
once_from k a zero h l = absurd (omega arith)
once_from k a (suc n) h l = by (a == k) refl (λ up. once_from k (a + 1) n up (omega arith)) where
  by : (b : Bool) → (a == k) ≡ b → (a + 1 ≤ k → times k (range_with_len (a + 1) n) ≡ 1) → times k (range_with_len a (suc n)) ≡ 1
  by true e later =
      let same : a ≡ k = grind (arith, nat_tests, e) in
      let rest = before k (a + 1) n (omega arith) in
      times-cons k a (range_with_len (a + 1) n) ∙ (rw (e, rest) refl)
  by false e later =
      let apart : a + 1 ≤ k = grind (arith, nat_tests, e) in
      times-cons k a (range_with_len (a + 1) n) ∙ (rw (e, later apart) refl)

pub once : (k n : ℕ) → k < n → times k (range_with_len 0 n) ≡ 1
once k n h = once_from k 0 n (omega arith) (omega arith)

-- a party is a holder as often as it holds the number
one_count : (node k : ℕ) (m : PlainMember) → length (holder_at node k m) ≡ times k (holds_at node m)
one_count node k m = by (home_of m.who) refl where
  by : (home : Option (ℕ × Place)) → home_of m.who ≡ home → length (places_held (times k (holds_at node m)) home) ≡ times k (holds_at node m)
  by (Some h) e = length-replicate (times k (holds_at node m)) h.1
  by None e =
      let away : is_at node m.who ≡ false = ap (λ (o : Option (ℕ × Place)). is_home node (option_map (λ (h : ℕ × Place). h.0) o)) e in
      let none : holds_at node m ≡ [] = rw away refl in
      sym (ap (times k) none)

-- a number has as many holders among the parties of a node as it is often with them
pub count_holders : (node k : ℕ) (ms : List PlainMember) → length (flat_map (holder_at node k) ms) ≡ times k (flat_map (holds_at node) ms)
count_holders node k [] = refl
count_holders node k (m ∷ ms) =
    length-append (holder_at node k m) (flat_map (holder_at node k) ms)
    ∙ ap (λ n. n + length (flat_map (holder_at node k) ms)) (one_count node k m)
    ∙ ap (λ n. times k (holds_at node m) + n) (count_holders node k ms)
    ∙ sym (times_joined k (holds_at node m) (flat_map (holds_at node) ms))

-- and in the whole node as often as it is there
pub holders_counted : ((d : PlainDeck) (k : ℕ) → length (holders_of d k) ≡ times k (numbers_in d)) → (w : PlainWorld) (node k : ℕ) (d : PlainDeck) → slice_get w.decks node ≡ Some d → length (holders w node k) ≡ times k (numbers_at w node d)
holders_counted law w node k d e =
    ap (λ o. length (deck_holders o k ++ flat_map (holder_at node k) w.members)) e
    ∙ length-append (holders_of d k) (flat_map (holder_at node k) w.members)
    ∙ ap (λ n. n + length (flat_map (holder_at node k) w.members)) (law d k)
    ∙ ap (λ n. times k (numbers_in d) + n) (count_holders node k w.members)
    ∙ sym (times_joined k (numbers_in d) (flat_map (holds_at node) w.members))

-- the lists of a node that has a count of buffers
pub deck_counted : (w : PlainWorld) (node count : ℕ) → slice_get (counts w) node ≡ Some count → (d : PlainDeck) × (slice_get w.decks node ≡ Some d) × (d.pool.room ≡ count)
deck_counted w node count e = by (slice_get w.decks node) refl (sym (slice_get-map (λ (d : PlainDeck). d.pool.room) w.decks node) ∙ e) where
  by : (o : Option PlainDeck) → slice_get w.decks node ≡ o → option_map (λ (d : PlainDeck). d.pool.room) o ≡ Some count → (d : PlainDeck) × (slice_get w.decks node ≡ Some d) × (d.pool.room ≡ count)
  by None s f = cc
  by (Some d) s f = (d, s, cc)

-- so where nothing is made or lost each number has one holder
pub one_holder : ((d : PlainDeck) (k : ℕ) → length (holders_of d k) ≡ times k (numbers_in d)) → (w : PlainWorld) → IsConserved w → HasOneHolder w
one_holder law w kept node count e k h =
    let (d, s, r) = deck_counted w node count e in
    holders_counted law w node k d s ∙ kept node d s k ∙ once k d.pool.room (rw r h)

-- how often a number is with the parties of a node, as a sum
as_sum : (node k : ℕ) (ms : List PlainMember) → times k (flat_map (holds_at node) ms) ≡ sum_by (λ m. times k (holds_at node m)) ms
as_sum node k [] = refl
as_sum node k (m ∷ ms) =
    times_joined k (holds_at node m) (flat_map (holds_at node) ms)
    ∙ ap (λ n. times k (holds_at node m) + n) (as_sum node k ms)
    ∙ sym (sum_by-cons (λ (m : PlainMember). times k (holds_at node m)) m ms)

-- one party is changed
members_set : (node k : ℕ) (ms : List PlainMember) (place : ℕ) (old new : PlainMember) → slice_get ms place ≡ Some old
    → times k (flat_map (holds_at node) (set ms place new)) + times k (holds_at node old) ≡ times k (flat_map (holds_at node) ms) + times k (holds_at node new)
members_set node k ms place old new e =
    ap (λ n. n + times k (holds_at node old)) (as_sum node k (set ms place new))
    ∙ sum_set (λ (m : PlainMember). times k (holds_at node m)) ms place old new e
    ∙ ap (λ n. n + times k (holds_at node new)) (sym (as_sum node k ms))

-- what a turn changes: a party and the lists, and what they hold together at each node stays
pub record Moves (w : PlainWorld) (place : ℕ) (old new : PlainMember) (after : List PlainDeck) : Type 0 where
  pub old_is : slice_get w.members place ≡ Some old
  pub rooms : rooms after ≡ rooms w.decks
  pub held : (node : ℕ) (d : PlainDeck) → slice_get w.decks node ≡ Some d → (e : PlainDeck) × (slice_get after node ≡ Some e)
      × ((k : ℕ) → times k (holds_at node new) + times k (numbers_in e) ≡ times k (holds_at node old) + times k (numbers_in d))

abbrev pub moved : PlainWorld → ℕ → PlainMember → List PlainDeck → PlainWorld
moved w place new after = record w { decks = after; members = set w.members place new }

-- the lists that stood at a node, with as much room
stood : (decks after : List PlainDeck) (node : ℕ) (x : PlainDeck) → rooms after ≡ rooms decks → slice_get after node ≡ Some x → (d : PlainDeck) × (slice_get decks node ≡ Some d) × (d.pool.room ≡ x.pool.room)
stood decks after node x same s = by (slice_get decks node) refl (sym (slice_get-map (λ (d : PlainDeck). d.pool.room) decks node) ∙ ap (λ l. slice_get l node) (sym same) ∙ slice_get-map (λ (d : PlainDeck). d.pool.room) after node ∙ ap (option_map (λ (d : PlainDeck). d.pool.room)) s) where
  by : (o : Option PlainDeck) → slice_get decks node ≡ o → option_map (λ (d : PlainDeck). d.pool.room) o ≡ Some x.pool.room → (d : PlainDeck) × (slice_get decks node ≡ Some d) × (d.pool.room ≡ x.pool.room)
  by None e f = cc
  by (Some d) e f = (d, e, cc)

-- each node has what it had
pub moves_conserve : (w : PlainWorld) (place : ℕ) (old new : PlainMember) (after : List PlainDeck) → Moves w place old new after → IsConserved w → IsConserved (moved w place new after)
moves_conserve w place old new after v kept node x s k =
    let (d, at, room) = stood w.decks after node x v.rooms s in
    let (e, there, held) = v.held node d at in
    let is : e ≡ x = cc in
    let held' : times k (holds_at node new) + times k (numbers_in x) ≡ times k (holds_at node old) + times k (numbers_in d) = subst (λ (y : PlainDeck). times k (holds_at node new) + times k (numbers_in y) ≡ times k (holds_at node old) + times k (numbers_in d)) is (held k) in
    add _ _ _ _ _ _ _ _
    (times_joined k (numbers_in x) (flat_map (holds_at node) (set w.members place new)))
    (times_joined k (numbers_in d) (flat_map (holds_at node) w.members))
    (members_set node k w.members place old new v.old_is) held'
    ∙ kept node d at k ∙ ap (λ n. times k (range_with_len 0 n)) room where
      add : (all all' e f d g ho hn : ℕ) → all ≡ e + f → all' ≡ d + g → f + ho ≡ g + hn → hn + e ≡ ho + d → all ≡ all'
      add all all' e f d g ho hn a b c h = omega arith
