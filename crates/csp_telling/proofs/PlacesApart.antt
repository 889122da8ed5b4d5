-- The queues of a node stand in their order, each once.
use Rattle.std.proofs.Common.{◌≡◌, ℕ, zero, suc, ◌+◌, ◌*◌, ◌<◌, false, Some, List, [], ◌∷◌, ◌++◌, map, refl, sym, ap, ◌∙◌, slice_get}
use Rattle.std.specs.Option.{option_map}
use Rattle.std.proofs.lemmas.Option.{same_Some, slice_get-map}
use Rattle.csp_consistent.specs.Reading.{is_queue}
use Rattle.csp_deck.specs.Carried.{places_of}
use Rattle.csp_lists.specs.Order.{lanes, places_in, position_of}
use Rattle.csp_lists.specs.declared.shape.Shape.{Shape}
use Rattle.csp_log.specs.declared.places.Place.TheVariants as place
use Rattle.csp_log.specs.declared.places.Place.{Place}
use Rattle.csp_log.specs.declared.places.QueueId.TheVariants as queue
use Rattle.csp_log.specs.declared.places.QueueId.{QueueId}
use Rattle.csp_topology.specs.Lanes.{PlainLane}
use Rattle.csp_lists.proofs.Public.{position}

-- ---- the lanes of a node

first_part : {X : Type 0} (xs ys : List X) (k : ℕ) (x : X) → slice_get xs k ≡ Some x → slice_get (xs ++ ys) k ≡ Some x
first_part [] ys k x e = absurd cc
first_part (z ∷ xs) ys zero x e = e
first_part (z ∷ xs) ys (suc k) x e = first_part xs ys k x e

lane_position : (s : Shape) (ls : List PlainLane) → map (λ (l : PlainLane). place.Lane l.queue) ls ++ places_of queue.Inbox ≡ places_in s
    → (k : ℕ) (l : PlainLane) → slice_get ls k ≡ Some l → position_of s (place.Lane l.queue) ≡ Some k
lane_position s ls order k l at =
    position s k (place.Lane l.queue)
    (ap (λ (ps : List Place). slice_get ps k) (sym order)
    ∙ first_part (map (λ (x : PlainLane). place.Lane x.queue) ls) (places_of queue.Inbox) k (place.Lane l.queue)
    (slice_get-map (λ (x : PlainLane). place.Lane x.queue) ls k ∙ ap (option_map (λ (x : PlainLane). place.Lane x.queue)) at))

no_lane : (s : Shape) (q : QueueId) (k : ℕ) → position_of s (place.Lane q) ≡ Some k → is_queue queue.Inbox q ≡ false
no_lane s queue.Inbox k e = absurd cc
no_lane s (queue.Up j) k e = refl
no_lane s (queue.Down j) k e = refl
no_lane s (queue.Out j) k e = refl
no_lane s (queue.Tx j) k e = refl
no_lane s (queue.Rx j) k e = refl

-- no two lanes have one name, and none has that of the inbox
pub record AreNamedApart (ls : List PlainLane) : Type 0 where
  pub apart : (a b : ℕ) (x y : PlainLane) → slice_get ls a ≡ Some x → slice_get ls b ≡ Some y → x.queue ≡ y.queue → a ≡ b
  pub lanes : (k : ℕ) (l : PlainLane) → slice_get ls k ≡ Some l → is_queue queue.Inbox l.queue ≡ false

pub named_apart : (s : Shape) (ls : List PlainLane) → map (λ (l : PlainLane). place.Lane l.queue) ls ++ places_of queue.Inbox ≡ places_in s → AreNamedApart ls
named_apart s ls order = record {
  apart = λ a b x y at there same. same_Some a b (sym (lane_position s ls order a x at) ∙ ap (λ (q : QueueId). position_of s (place.Lane q)) same ∙ lane_position s ls order b y there);
  lanes = λ k l at. no_lane s l.queue k (lane_position s ls order k l at);
}
