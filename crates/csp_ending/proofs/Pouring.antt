-- What is noted item by item.
use Rattle.std.proofs.Common.{◌≡◌, ◌≤◌, ℕ, ◌+◌, List, [], ◌∷◌, ◌++◌, length, map, All, refl, subst, ◌∙◌, ap, arith, append_assoc, length-append}
use Rattle.std.specs.List.{AllByRecursion}
use Rattle.std.proofs.lemmas.List.{length-map}
use Rattle.std.proofs.lemmas.List.Elements.{All-head, All-rest}
use Rattle.csp_arena.specs.Cells.{RegionName}
use Rattle.csp_deck.specs.Carried.{IsCarried}
use Rattle.csp_deck.specs.Step.{item_numbers}
use Rattle.csp_ending.specs.Ends.{LaneEnds}
use Rattle.csp_ending.specs.Notes.{PlainNotes, with_queue}
use Rattle.csp_ending.specs.Stores.{PlainStore, TakesBack}
use Rattle.csp_lane.specs.Ends.{PlainEnd, PlainLane, Closes, IsEndOf, IsFor}
use Rattle.csp_lists.specs.PlainDeck.{numbers_of}
use Rattle.csp_log.specs.Pictures.{shown_item}
use Rattle.csp_log.specs.declared.item.Item.{Item}
use Rattle.csp_log.specs.declared.places.Carries.{Carries}
use Rattle.csp_log.specs.declared.places.Place.TheVariants as place
use Rattle.csp_log.specs.declared.places.QueueId.{QueueId}
use Rattle.csp_log.specs.declared.places.Rule.TheVariants as rule
use Rattle.csp_log.specs.declared.shown.ItemShown.{ItemShown}
use Rattle.csp_log.specs.declared.shown.ItemShown.TheVariants as item

-- what was noted, then this, then the rest, is the whole
pub moved : {A : Type 0} (before noted after rest whole : List A) → after ≡ before ++ noted → before ++ (noted ++ rest) ≡ whole → after ++ rest ≡ whole
moved before noted after rest whole e f = ap (λ xs. xs ++ rest) e ∙ append_assoc before noted rest ∙ f

-- an item has one buffer at most
pub one_number : (i : ItemShown) → length (item_numbers i) ≤ 1
one_number (item.Packet mark b) = omega arith
one_number (item.Frame f) = omega arith
one_number (item.Note n) = omega arith

-- as many more are back
pub longer : {s t : PlainStore} {ns : List ℕ} → TakesBack s ns t → length t.numbers ≡ length s.numbers + length ns
longer {s} {t} {ns} h = ap (λ (xs : List ℕ). length xs) h.numbers ∙ length-append s.numbers ns

-- what a lane carried is what it carries
carried : (r : RegionName) (carries : Carries) (xs : List Item) → All (IsFor r carries) xs → AllByRecursion (IsCarried (rule.Lane carries)) (map shown_item xs)
carried r carries [] h = record {}
carried r carries (x ∷ xs) h = ((All-head (IsFor r carries) x xs h).carried, carried r carries xs (All-rest (IsFor r carries) x xs (x ∷ xs) refl h))

-- the end of a lane, from what its close found and what was noted of that
pub lane_ends : (l : PlainLane) (p c : PlainEnd) (node : ℕ) (q : QueueId) (m n : PlainNotes) (s t : PlainStore) (before after left : List Item) (old new : List ItemShown)
    → IsEndOf l p → after ≡ before ++ left → Closes p c left → before ≡ [] → old ≡ [] → new ≡ old ++ map shown_item after → TakesBack s (numbers_of (map shown_item after)) t
    → n ≡ with_queue m node q 0 (place.Lane q) new n.queues → m.queues ≡ n.queues + 1 → LaneEnds l p c node q m n s t
lane_ends l p c node q m n s t before after left old new of_it e h none blank items back noted rooms =
    let same : after ≡ left = e ∙ ap (λ xs. xs ++ left) none in
    let shown : new ≡ map shown_item left = items ∙ ap (λ xs. xs ++ map shown_item after) blank ∙ ap (map shown_item) same in
    record {
      left = map shown_item left;
      whole = record { order = h.order; carried = carried p.region p.carries left h.carried; few = (let few = h.few in let long = length-map left shown_item in let room = of_it.room in omega (arith, few, long, room)); heeded = h.heeded };
      rooms = rooms;
      noted = noted ∙ ap (λ xs. with_queue m node q 0 (place.Lane q) xs n.queues) shown;
      back = subst (λ ns. TakesBack s ns t) (ap (λ xs. numbers_of (map shown_item xs)) same) back;
    }
