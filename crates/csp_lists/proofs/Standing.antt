-- The queues of a deck stand where their places say.
use Rattle.std.proofs.Common.{◌≡◌, ℕ, suc, ◌+◌, ◌*◌, ◌<◌, Bool, true, false, cond, List, [], ◌∷◌, ◌++◌, length, map, Option, Some, None, IsSome, refl, sym, ap, ◌∙◌, arith, zero, slice_get, slice_set, take, add-one, ◌≤◌, ltb}
use Rattle.std.proofs.lemmas.Bool.{ltb-true}
use Rattle.std.specs.Option.{option_map}
use Rattle.std.proofs.lemmas.List.{length-append, map-append, take_all}
use Rattle.std.proofs.lemmas.List.Elements.{All-map}
use Rattle.std.proofs.Math.Seq.{map-set_same, take-suc}
use Rattle.std.proofs.lemmas.List.FromFn.{length-map-range_with_len, get_or-map-range_with_len}
use Rattle.std.proofs.lemmas.Option.{slice_get-map, slice_get-get_or, slice_get_within, get_or_from_slice_get}
use Rattle.csp_base.specs.declared.priority.Prio.{Prio}
use Rattle.csp_base.specs.declared.priority.Prio.TheVariants.{Critical, High, Normal, Low}
use Rattle.csp_deck.specs.Carried.{places_of}
use Rattle.csp_lists.specs.DeckParts.{IsInOrder, plain_deck}
use Rattle.csp_lists.specs.Order.{lanes, places_in, queue_count, nth_from, position_of}
use Rattle.csp_lists.specs.PlainDeck.{PlainQueue, PlainDeck, AllEmpty, emptied, queue_at, rule_at, opening_queue, opening_queues}
use Rattle.csp_lists.specs.Regioned.{QueuesAt}
use Rattle.csp_lists.specs.declared.list_deck.ListDeck.TheInside.{Inside}
use Rattle.csp_lists.specs.declared.shape.Shape.{Shape}
use Rattle.csp_log.specs.declared.places.Carries.{Carries}
use Rattle.csp_log.specs.declared.places.Place.{Place}
use Rattle.csp_log.specs.declared.places.Place.TheVariants as place
use Rattle.csp_log.specs.declared.places.QueueId.{QueueId}
use Rattle.csp_log.specs.declared.places.QueueId.TheVariants as queue

-- a list after another, and before one
past : {X : Type 0} (xs ys : List X) (n k : ℕ) → n ≡ length xs + k → slice_get (xs ++ ys) n ≡ slice_get ys k
past [] ys n k e = let same : n ≡ k = omega arith in rw same refl
past (x ∷ xs) ys n k e = let more : n ≡ suc (length xs + k) = omega arith in rw more (past xs ys (length xs + k) k refl)

before : {X : Type 0} (xs ys : List X) (k : ℕ) (x : X) → slice_get xs k ≡ Some x → slice_get (xs ++ ys) k ≡ Some x
before [] ys k x e = cc
before (y ∷ xs) ys zero x e = e
before (y ∷ xs) ys (suc k) x e = before xs ys k x e

lanes_long : (name : ℕ → QueueId) (n : ℕ) → length (lanes name n) ≡ n
lanes_long name n = length-map-range_with_len (λ k. place.Lane (name k)) 0 n

past_lanes : (name : ℕ → QueueId) (n : ℕ) (rest : List Place) (at k : ℕ) → at ≡ n + k → slice_get (lanes name n ++ rest) at ≡ slice_get rest k
past_lanes name n rest at k e = let long = lanes_long name n in past (lanes name n) rest at k (omega (arith, long))

in_lanes : (name : ℕ → QueueId) (n : ℕ) (rest : List Place) (k : ℕ) → k < n → slice_get (lanes name n ++ rest) k ≡ Some (place.Lane (name k))
in_lanes name n rest k h =
    let long = lanes_long name n in
    let inside : k < length (lanes name n) = omega (arith, long) in
    before (lanes name n) rest k (place.Lane (name k))
    (slice_get-get_or (lanes name n) k place.Pool inside ∙ ap Some (get_or-map-range_with_len (λ j. place.Lane (name j)) 0 n k k place.Pool h (omega arith)))

-- a lane that stands somewhere is one of them
pub nth_within : (first count k at : ℕ) → nth_from first count k ≡ Some at → (k < count) × (at ≡ first + k)
nth_within first count k at e = by (ltb k count) refl e where
  by : (b : Bool) → ltb k count ≡ b → cond b (Some (first + k)) None ≡ Some at → (k < count) × (at ≡ first + k)
  by true t e = (ltb-true k count t, cc)
  by false t e = cc

module _ (s : Shape) where
  abbrev urgent : List Place
  urgent = places_of queue.Inbox

  abbrev ups : List Place
  ups = lanes queue.Up s.apps ++ urgent

  abbrev downs : List Place
  downs = lanes queue.Down s.apps ++ ups

  abbrev outs : List Place
  outs = lanes queue.Out s.ifaces ++ downs

  abbrev txs : List Place
  txs = lanes queue.Tx s.ifaces ++ outs

  to_outs : (at k : ℕ) → at ≡ 2 * s.ifaces + k → slice_get (places_in s) at ≡ slice_get outs k
  to_outs at k e = past_lanes queue.Rx s.ifaces txs at (s.ifaces + k) (omega arith) ∙ past_lanes queue.Tx s.ifaces outs (s.ifaces + k) k refl

  to_downs : (at k : ℕ) → at ≡ 3 * s.ifaces + k → slice_get (places_in s) at ≡ slice_get downs k
  to_downs at k e = to_outs at (s.ifaces + k) (omega arith) ∙ past_lanes queue.Out s.ifaces downs (s.ifaces + k) k refl

  to_ups : (at k : ℕ) → at ≡ 3 * s.ifaces + s.apps + k → slice_get (places_in s) at ≡ slice_get ups k
  to_ups at k e = to_downs at (s.apps + k) (omega arith) ∙ past_lanes queue.Down s.apps ups (s.apps + k) k refl

  to_inbox : (at k : ℕ) → at ≡ 3 * s.ifaces + 2 * s.apps + k → slice_get (places_in s) at ≡ slice_get urgent k
  to_inbox at k e = to_ups at (s.apps + k) (omega arith) ∙ past_lanes queue.Up s.apps urgent (s.apps + k) k refl

  -- the place of a position is at that position
  pub place_there : (p : Place) (at : ℕ) → position_of s p ≡ Some at → slice_get (places_in s) at ≡ Some p
  place_there (place.Inbox Critical) at e = to_inbox at 0 (cc)
  place_there (place.Inbox High) at e = to_inbox at 1 (cc)
  place_there (place.Inbox Normal) at e = to_inbox at 2 (cc)
  place_there (place.Inbox Low) at e = to_inbox at 3 (cc)
  place_there (place.Lane (queue.Rx k)) at e = let w = nth_within 0 s.ifaces k at e in let same : at ≡ k = omega (arith, w.1) in rw same (in_lanes queue.Rx s.ifaces txs k w.0)
  place_there (place.Lane (queue.Tx k)) at e = let w = nth_within s.ifaces s.ifaces k at e in past_lanes queue.Rx s.ifaces txs at k w.1 ∙ in_lanes queue.Tx s.ifaces outs k w.0
  place_there (place.Lane (queue.Out k)) at e = let w = nth_within (2 * s.ifaces) s.ifaces k at e in to_outs at k w.1 ∙ in_lanes queue.Out s.ifaces downs k w.0
  place_there (place.Lane (queue.Down k)) at e = let w = nth_within (3 * s.ifaces) s.apps k at e in to_downs at k w.1 ∙ in_lanes queue.Down s.apps ups k w.0
  place_there (place.Lane (queue.Up k)) at e = let w = nth_within (3 * s.ifaces + s.apps) s.apps k at e in to_ups at k w.1 ∙ in_lanes queue.Up s.apps urgent k w.0
  place_there p at e = cc

-- how many queues a shape has
pub places_long : (s : Shape) → length (places_in s) ≡ queue_count s
places_long s =
    let i = s.ifaces in
    let a = s.apps in
    simp (
      length-append,
      lanes_long queue.Rx i,
      lanes_long queue.Tx i,
      lanes_long queue.Out i,
      lanes_long queue.Down a,
      lanes_long queue.Up a,
    ) (omega arith)

-- a queue of a deck that stands in order: the one whose place has this position
pub standing : (inbox : ℕ) (links : List Carries) (s : Shape) (qs : List PlainQueue) (p : Place) (at : ℕ)
    → map emptied qs ≡ opening_queues inbox links s → position_of s p ≡ Some at
    → (q : PlainQueue) × (slice_get qs at ≡ Some q) × (emptied q ≡ opening_queue inbox links p)
standing inbox links s qs p at order there =
    found (slice_get qs at) refl
    (sym (slice_get-map emptied qs at) ∙ ap (λ xs. slice_get xs at) order ∙ slice_get-map (opening_queue inbox links) (places_in s) at ∙ ap (option_map (opening_queue inbox links)) (place_there s p at there))
  where
    found : (o : Option PlainQueue) → slice_get qs at ≡ o → option_map emptied o ≡ Some (opening_queue inbox links p) → (q : PlainQueue) × (slice_get qs at ≡ Some q) × (emptied q ≡ opening_queue inbox links p)
    found None e same = cc
    found (Some q) e same = (q, e, cc)

-- the queue of a place is the one at its position
pub queue_there : (d : PlainDeck) (p : Place) (at : ℕ) (o : Option PlainQueue) → position_of d.shape p ≡ Some at → slice_get d.queues at ≡ o → queue_at d p ≡ o
queue_there d p at o there e = rw there e

-- the queues of a deck as its fields are
module _ (d : Inside) (order : IsInOrder d) where
  pub stands : (p : Place) (at : ℕ) → position_of d.shape p ≡ Some at → (q : PlainQueue) × (slice_get d.queues.queues at ≡ Some q) × (emptied q ≡ opening_queue order.inbox order.links p)
  stands p at there = standing order.inbox order.links d.shape d.queues.queues p at order.queues there

  pub stands_within : (p : Place) (at : ℕ) → position_of d.shape p ≡ Some at → at < length d.queues.queues
  stands_within p at there = let w = stands p at there in slice_get_within d.queues.queues at w.0 w.1

  -- the rule of the queue that is read at the position of a place
  pub rule_there : (p : Place) (at : ℕ) (q : PlainQueue) → position_of d.shape p ≡ Some at → slice_get d.queues.queues at ≡ Some q → q.rule ≡ rule_at order.links p
  rule_there p at q there here =
      let w = stands p at there in
      let same : w.0 ≡ q = got (sym w.1 ∙ here) in
      ap (λ q. q.rule) (rw same at w.2)
    where
      got : {X : Type 0} {x y : X} → Some x ≡ Some y → x ≡ y
      got e = cc

  -- what is written there differs in its items alone
  pub order_kept : (at : ℕ) (q new : PlainQueue) (after : QueuesAt) → slice_get d.queues.queues at ≡ Some q → after.queues ≡ slice_set d.queues.queues at new → after.region ≡ d.queues.region → emptied new ≡ emptied q
      → IsInOrder (record d { queues = after })
  order_kept at q new after here written region same = record {
    inbox = order.inbox;
    links = order.links;
    queues = ap (map emptied) written ∙ map-set_same emptied d.queues.queues at new q (same ∙ ap emptied (sym (get_or_from_slice_get d.queues.queues at q q here))) ∙ order.queues;
    of_it = order.of_it ∙ sym region;
  }

  -- each priority of the inbox has its queue
  pub inbox_there : (p : Prio) → IsSome (queue_at (plain_deck d) (place.Inbox p))
  inbox_there p = let w = stands (place.Inbox p) _ refl in rw w.1 refl

-- the places one by one
pub next_place : (s : Shape) (p : Place) (at : ℕ) → position_of s p ≡ Some at → take (at + 1) (places_in s) ≡ take at (places_in s) ++ p ∷ []
next_place s p at there =
    let e = place_there s p at there in
    rw add-one (take-suc (places_in s) at p (slice_get_within (places_in s) at p e) ∙ ap (λ x. take at (places_in s) ++ x ∷ []) (get_or_from_slice_get (places_in s) at p p e))

pub next_opened : (inbox : ℕ) (links : List Carries) (s : Shape) (p : Place) (at : ℕ) → position_of s p ≡ Some at
    → map (opening_queue inbox links) (take (at + 1) (places_in s)) ≡ map (opening_queue inbox links) (take at (places_in s)) ++ opening_queue inbox links p ∷ []
next_opened inbox links s p at there = ap (map (opening_queue inbox links)) (next_place s p at there) ∙ map-append (opening_queue inbox links) (take at (places_in s)) (p ∷ [])

pub all_places : (s : Shape) (n : ℕ) → queue_count s ≤ n → take n (places_in s) ≡ places_in s
all_places s n h = let long = places_long s in take_all n (places_in s) (omega (arith, long))

-- queues at the opening are empty, and differ in no items
pub opened_empty : (inbox : ℕ) (links : List Carries) (ps : List Place) → AllEmpty (map (opening_queue inbox links) ps)
opened_empty inbox links ps = All-map (λ q. q.items ≡ []) (opening_queue inbox links) ps (λ k d h. refl)

pub opened_emptied : (inbox : ℕ) (links : List Carries) (ps : List Place) → map emptied (map (opening_queue inbox links) ps) ≡ map (opening_queue inbox links) ps
opened_emptied inbox links [] = refl
opened_emptied inbox links (p ∷ ps) = ap (λ qs. opening_queue inbox links p ∷ qs) (opened_emptied inbox links ps)
