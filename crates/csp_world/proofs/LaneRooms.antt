-- A lane of a node: the queue that it is, with its room, after each operation; and when a push there is refused.
use Rattle.std.proofs.Common.{◌≡◌, ◌≤◌, ℕ, zero, suc, Bool, true, false, nat_lt, cond, Option, None, Some, List, [], ◌∷◌, ◌++◌, length, map, set, refl, sym, subst, ap, ◌∙◌, arith}
use Rattle.std.specs.Prelude.{slice_get, if◌then◌else◌, IsSome, ⊤}
use Rattle.std.specs.List.{AllByRecursion}
use Rattle.std.specs.Option.{option_and_then, option_map}
use Rattle.std.proofs.lemmas.Bool.{ltb-false, ltb-true}
use Rattle.std.proofs.lemmas.List.{append-nil, length-append}
use Rattle.std.proofs.lemmas.Option.{same_Some, slice_get-map}
use Rattle.csp_buffer.specs.Content.{Content}
use Rattle.csp_consistent.specs.Lanes.{IsFullAfter, IsRefused}
use Rattle.csp_consistent.specs.Reading.{puts}
use Rattle.csp_deck.specs.Carried.{place_for}
use Rattle.csp_lists.specs.Order.{places_in, position_of}
use Rattle.csp_lists.specs.PlainDeck.{PlainDeck, PlainQueue, answer_of, emptied, front_of, given, lane_room, opening_deck, opening_queue, popped, pops_at, pushed, queue_at, refilled, shape_of, taken, with_nth, with_pool, with_queue}
use Rattle.csp_lists.specs.declared.shape.Shape.{Shape}
use Rattle.csp_log.specs.declared.entry.Entry.{Entry}
use Rattle.csp_log.specs.declared.places.Carries.{Carries}
use Rattle.csp_log.specs.declared.places.Place.{Place}
use Rattle.csp_log.specs.declared.places.Place.TheVariants as place
use Rattle.csp_log.specs.declared.places.QueueId.{QueueId}
use Rattle.csp_log.specs.declared.shown.AnswerShown.{AnswerShown}
use Rattle.csp_log.specs.declared.shown.AnswerShown.TheVariants as answer
use Rattle.csp_log.specs.declared.shown.ItemShown.{ItemShown}
use Rattle.csp_log.specs.declared.shown.OpShown.{OpShown}
use Rattle.csp_log.specs.declared.shown.OpShown.TheVariants as op
use Rattle.csp_world.proofs.ContentLemmas.{IsRight, PicksOne, content, content_found, is_named}
use Rattle.csp_world.proofs.LaneNames.{IsLane, lane_named, lane_place}
use Rattle.csp_world.proofs.LocalLemmas.{Keeps}
use Rattle.csp_world.proofs.MovedLemmas.{KeepsShape}
use Rattle.csp_world.proofs.OpeningRules.{Stands}
use Rattle.csp_world.proofs.QueuedLemmas.{KeepsQueues}

-- ---- no queue has more items than it has room for

abbrev pub IsFew : PlainQueue → Type 0
IsFew q = length q.items ≤ q.room

abbrev pub AreFew : PlainDeck → Type 0
AreFew d = AllByRecursion IsFew d.queues

all-put : (qs : List PlainQueue) (k : ℕ) (y : PlainQueue) → IsFew y → AllByRecursion IsFew qs → AllByRecursion IsFew (set qs k y)
all-put [] k y few all = tt
all-put (q ∷ qs) zero y few all = (few, all.1)
all-put (q ∷ qs) (suc k) y few all = (all.0, all-put qs k y few all.1)

few_put : (d : PlainDeck) (p : Place) (y : PlainQueue) → IsFew y → AreFew d → AreFew (with_queue d p y)
few_put d p y few all = by (position_of d.shape p) where
  by : (o : Option ℕ) → AllByRecursion IsFew (with_nth d.queues o y)
  by None = all
  by (Some at) = all-put d.queues at y few all

few_at : (qs : List PlainQueue) → AllByRecursion IsFew qs → (k : ℕ) (x : PlainQueue) → slice_get qs k ≡ Some x → IsFew x
few_at [] all k x e = absurd cc
few_at (q ∷ qs) all zero x e = subst IsFew (same_Some q x e) all.0
few_at (q ∷ qs) all (suc k) x e = few_at qs all.1 k x e

few_found : (d : PlainDeck) → AreFew d → (p : Place) (x : PlainQueue) → queue_at d p ≡ Some x → IsFew x
few_found d all p x e = by (position_of d.shape p) e where
  by : (o : Option ℕ) → option_and_then (λ at. slice_get d.queues at) o ≡ Some x → IsFew x
  by None g = absurd cc
  by (Some at) g = few_at d.queues all at x g

few_pushed : (d : PlainDeck) → AreFew d → (p : Place) (i : ItemShown) (found : Option PlainQueue) → AreFew (pushed d p i found).1
few_pushed d all p i None = all
few_pushed d all p i (Some x) = by (nat_lt (length x.items) x.room) refl where
  by : (room : Bool) → nat_lt (length x.items) x.room ≡ room → AreFew (cond {A = AnswerShown × PlainDeck} room (answer.Pushed, with_queue d p (refilled x (x.items ++ i ∷ []))) (answer.Full i, d)).1
  by true e =
      let low = ltb-true (length x.items) x.room e in
      let long = length-append x.items (i ∷ []) in
      few_put d p (refilled x (x.items ++ i ∷ [])) (omega (arith, low, long)) all
  by false e = all

few_front : (d : PlainDeck) → AreFew d → (p : Place) (x : PlainQueue) → IsFew x → (items : List ItemShown) → x.items ≡ items → AreFew (front_of d p x items).1
few_front d all p x few [] e = all
few_front d all p x few (i ∷ items) e =
    let long = ap (λ (is : List ItemShown). length is) e in
    few_put d p (refilled x items) (omega (arith, few, long)) all

few_popped : (d : PlainDeck) → AreFew d → (p : Place) (found : Option PlainQueue) → ((x : PlainQueue) → found ≡ Some x → IsFew x) → AreFew (popped d p found).1
few_popped d all p None few = all
few_popped d all p (Some x) few = few_front d all p x (few x refl) x.items refl

few_taken : (d : PlainDeck) → AreFew d → (bs : List Content) → AreFew (taken d bs).1
few_taken d all [] = all
few_taken d all (b ∷ bs) = all

few_given : (d : PlainDeck) → AreFew d → (b : Content) → AreFew (given d b).1
few_given d all b = by (nat_lt (length d.pool.items) d.pool.room) where
  by : (room : Bool) → AreFew (cond {A = AnswerShown × PlainDeck} room (answer.Given, with_pool d (d.pool.items ++ b ∷ [])) (answer.PoolFull b, d)).1
  by true = all
  by false = all

few_kept : Keeps AreFew
few_kept d op.Nothing all = all
few_kept d op.Take all = few_taken d all d.pool.items
few_kept d (op.Give b) all = few_given d all b
few_kept d (op.Push q i) all = few_pushed d all (place_for q i) i (queue_at d (place_for q i))
few_kept d (op.Pop q) all = few_popped d all (pops_at d q) (queue_at d (pops_at d q)) (few_found d all (pops_at d q))

few_empty : (inbox : ℕ) (links : List Carries) (ps : List Place) → AllByRecursion IsFew (map (opening_queue inbox links) ps)
few_empty inbox links [] = tt
few_empty inbox links (p ∷ ps) = (omega arith, few_empty inbox links ps)

-- ---- the queue of a lane

pub record HasLane (q : QueueId) (d : PlainDeck) : Type 0 where
  pub at : ℕ
  pub stands : position_of d.shape (place.Lane q) ≡ Some at
  pub queue : PlainQueue
  pub there : slice_get d.queues at ≡ Some queue
  pub place : queue.place ≡ place.Lane q
  pub room : queue.room ≡ lane_room q

-- the same queue with other items
record IsSame (qs : List PlainQueue) (at : ℕ) (x : PlainQueue) : Type 0 where
  pub queue : PlainQueue
  pub there : slice_get qs at ≡ Some queue
  pub same : emptied queue ≡ emptied x

same_at : (qs : List PlainQueue) (at : ℕ) (x : PlainQueue) (o : Option PlainQueue) → slice_get qs at ≡ o → option_map emptied o ≡ Some (emptied x) → IsSame qs at x
same_at qs at x None e g = absurd cc
same_at qs at x (Some y) e g = record { queue = y; there = e; same = same_Some (emptied y) (emptied x) g }

same_of : (qs xs : List PlainQueue) → map emptied qs ≡ map emptied xs → (at : ℕ) (x : PlainQueue) → slice_get xs at ≡ Some x → IsSame qs at x
same_of qs xs same at x e =
    same_at qs at x (slice_get qs at) refl
    (sym (slice_get-map emptied qs at) ∙ ap (λ (ys : List PlainQueue). slice_get ys at) same ∙ slice_get-map emptied xs at ∙ ap (option_map emptied) e)

lane_kept : KeepsQueues → KeepsShape → (q : QueueId) → Keeps (HasLane q)
lane_kept queues shape q d o h =
    let same = same_of (answer_of d o).1.queues d.queues (queues d o) h.at h.queue h.there in
    record {
      at = h.at;
      stands = ap (λ (s : Shape). position_of s (place.Lane q)) (shape d o) ∙ h.stands;
      queue = same.queue;
      there = same.there;
      place = ap (λ (x : PlainQueue). x.place) same.same ∙ h.place;
      room = ap (λ (x : PlainQueue). x.room) same.same ∙ h.room;
    }

lane_opened : Stands → (q : QueueId) (buffers : List Content) (inbox apps : ℕ) (links : List Carries) → IsSome (position_of (shape_of apps links) (place.Lane q)) → HasLane q (opening_deck buffers inbox apps links)
lane_opened stands q buffers inbox apps links some = by (position_of (shape_of apps links) (place.Lane q)) refl some where
  d : PlainDeck
  d = opening_deck buffers inbox apps links

  by : (o : Option ℕ) → position_of (shape_of apps links) (place.Lane q) ≡ o → IsSome o → HasLane q d
  by None e h = absurd cc
  by (Some at) e h = record {
    at = at;
    stands = e;
    queue = opening_queue inbox links (place.Lane q);
    there = sym (ap (λ (o : Option ℕ). option_and_then (λ k. slice_get d.queues k) o) e) ∙ stands buffers inbox apps links (place.Lane q) some;
    place = refl;
    room = refl;
  }

-- ---- both of them

pub record IsRoomy (q : QueueId) (d : PlainDeck) : Type 0 where
  pub right : IsRight d
  pub few : AreFew d
  pub lane : HasLane q d

pub roomy_kept : KeepsQueues → KeepsShape → Keeps IsRight → (q : QueueId) → Keeps (IsRoomy q)
roomy_kept queues shape keeps q d o h = record { right = keeps d o h.right; few = few_kept d o h.few; lane = lane_kept queues shape q d o h.lane }

pub roomy_opened : Stands → (q : QueueId) (buffers : List Content) (inbox apps : ℕ) (links : List Carries) → IsRight (opening_deck buffers inbox apps links) → IsSome (position_of (shape_of apps links) (place.Lane q))
    → IsRoomy q (opening_deck buffers inbox apps links)
roomy_opened stands q buffers inbox apps links right some = record {
  right = right;
  few = few_empty inbox links (places_in (shape_of apps links));
  lane = lane_opened stands q buffers inbox apps links some;
}

-- a push that is answered Full found no room
abbrev pub IsFull : AnswerShown → Type 0
IsFull (answer.Full _) = ⊤
IsFull _ = ⊥

pub refused_full : (q : QueueId) (o : OpShown) (a : AnswerShown) → IsRefused q o a → IsFull a
refused_full q (op.Push r i) (answer.Full j) e = tt
refused_full q _ _ e = absurd e

no_room : (d : PlainDeck) (p : Place) (i : ItemShown) (x : PlainQueue) → IsFull (pushed d p i (Some x)).0 → x.room ≤ length x.items
no_room d p i x full = by (nat_lt (length x.items) x.room) refl full where
  by : (room : Bool) → nat_lt (length x.items) x.room ≡ room → IsFull (cond {A = AnswerShown × PlainDeck} room (answer.Pushed, with_queue d p (refilled x (x.items ++ i ∷ []))) (answer.Full i, d)).0 → x.room ≤ length x.items
  by true e h = absurd h
  by false e h = ltb-false (length x.items) x.room e

found_lane : (q : QueueId) (d : PlainDeck) (h : HasLane q d) → queue_at d (place.Lane q) ≡ Some h.queue
found_lane q d h = ap (λ (o : Option ℕ). option_and_then (λ at. slice_get d.queues at) o) h.stands ∙ h.there

pub lane_content : (q : QueueId) → IsLane q → PicksOne q 0 → (d : PlainDeck) (h : IsRoomy q d) → content q 0 d ≡ h.lane.queue.items
lane_content q lane one d h = content_found q 0 one d h.right h.lane.at h.lane.queue h.lane.there (ap (is_named q 0) h.lane.place ∙ lane_named q)

pub left_few : (q : QueueId) → IsLane q → PicksOne q 0 → (d : PlainDeck) (h : IsRoomy q d) → length (content q 0 d) ≤ lane_room q
left_few q lane one d h =
    let long = ap (λ (is : List ItemShown). length is) (lane_content q lane one d h) in
    let few = few_at d.queues h.few h.lane.at h.lane.queue h.lane.there in
    let room = h.lane.room in
    omega (arith, long, few, room)

-- so as many items are there then as it has room for
pub as_full : (q : QueueId) → IsLane q → PicksOne q 0 → (d : PlainDeck) → IsRoomy q d → (i : ItemShown) → IsFull (answer_of d (op.Push q i)).0 → lane_room q ≤ length (content q 0 d)
as_full q lane one d h i full =
    let long = ap (λ (is : List ItemShown). length is) (lane_content q lane one d h) in
    let room = h.lane.room in
    let at : queue_at d (place_for q i) ≡ Some h.lane.queue = ap (queue_at d) (lane_place q lane i) ∙ found_lane q d h.lane in
    let none = no_room d (place_for q i) i h.lane.queue (subst (λ (found : Option PlainQueue). IsFull (pushed d (place_for q i) i found).0) at full) in
    omega (arith, long, room, none)

-- ---- one entry more

abbrev rest_of : List Entry → List Entry
rest_of [] = []
rest_of (e ∷ es) = es

abbrev first_or : Entry → List Entry → Entry
first_or e [] = e
first_or e (f ∷ es) = f

-- an entry of a list with one more at its end is that, or of the list
last_or : (C : Type 0) (es before after : List Entry) (e f : Entry) → es ++ e ∷ [] ≡ before ++ f ∷ after → (es ≡ before → e ≡ f → C) → ((rest : List Entry) → es ≡ before ++ f ∷ rest → C) → C
last_or C [] [] after e f same last earlier = last refl (ap (first_or e) same)
last_or C [] (b ∷ []) after e f same last earlier = absurd cc
last_or C [] (b ∷ c ∷ before) after e f same last earlier = absurd cc
last_or C (x ∷ es) [] after e f same last earlier = earlier es (ap (λ (y : Entry). y ∷ es) (ap (first_or x) same))
last_or C (x ∷ es) (b ∷ before) after e f same last earlier =
    let head : x ≡ b = ap (first_or x) same in
    last_or C es before after e f (ap rest_of same)
    (λ g h. last (ap (λ (y : Entry). y ∷ es) head ∙ ap (λ (ys : List Entry). b ∷ ys) g) h)
    (λ rest g. earlier rest (ap (λ (y : Entry). y ∷ es) head ∙ ap (λ (ys : List Entry). b ∷ ys) g))

pub full-push : (room : ℕ) (q : QueueId) (es : List Entry) (so : Bool) (e : Entry) → IsFullAfter room q es → (so ≡ true → IsRefused q e.op e.answer → room ≤ length (puts q es)) → IsFullAfter room q (es ++ (if so then e ∷ [] else []))
full-push room q es false e full new = subst (IsFullAfter room q) (sym (append-nil es)) full
full-push room q es true e full new = λ before after f split refused.
    last_or (room ≤ length (puts q before)) es before after e f split
    (λ same is. subst (λ (ys : List Entry). room ≤ length (puts q ys)) same (new refl (subst (λ (x : Entry). IsRefused q x.op x.answer) (sym is) refused)))
    (λ rest same. full before rest f same refused)

pub full_none : (room : ℕ) (q : QueueId) → IsFullAfter room q []
full_none room q before after e split refused = by before split where
  by : (es : List Entry) → [] ≡ es ++ e ∷ after → room ≤ length (puts q before)
  by [] g = absurd cc
  by (x ∷ es) g = absurd cc
