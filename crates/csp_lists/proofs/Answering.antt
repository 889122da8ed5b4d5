-- what a list deck answers, from what one of its queues answered
use Rattle.std.proofs.Common.{◌≡◌, ℕ, suc, ◌<◌, ◌≤◌, ltb, Bool, true, false, List, [], ◌∷◌, ◌++◌, length, map, slice_get, slice_set, Option, Some, None, Result, Ok, Err, IsSome, IsSomeAnd, MatchOption, MatchResult, IsTrue, not, nat_lt, refl, sym, ap, subst, ◌∙◌, arith}
use Rattle.std.specs.List.{AllByRecursion}
use Rattle.std.specs.Option.{option_map, option_and_then}
use Rattle.std.proofs.lemmas.Bool.{lt-ltb, le-ltb}
use Rattle.std.proofs.lemmas.List.{set-get_or}
use Rattle.std.proofs.lemmas.Option.{slice_get-map, get_or_from_slice_get}
use Rattle.std.proofs.Math.Seq.{map-set_same}
use Rattle.csp_base.specs.declared.priority.Prio.{Prio}
use Rattle.csp_base.specs.declared.priority.Prio.TheVariants.{Critical, High, Normal, Low}
use Rattle.csp_deck.specs.Carried.{IsCarried, IsCarriedIn, priority_of, place_for, places_of, places_before, passed_over}
use Rattle.csp_lists.proofs.Standing.{stands, rule_there}
use Rattle.csp_lists.specs.DeckParts.{IsInOrder, plain_deck}
use Rattle.csp_lists.specs.Order.{position_of}
use Rattle.csp_lists.specs.declared.list_deck.ListDeck.TheInside.{Inside}
use Rattle.csp_lists.specs.PlainDeck.{PlainDeck, PlainQueue, refilled, emptied, with_nth, queue_at, with_queue, rule_at, rule_of, has_items, has_packet, first_with, most_urgent, pops_at, IsEmptyAt, IsFullAt, PushesSo, PopsSo}
use Rattle.csp_log.specs.declared.shown.ItemShown.{ItemShown}
use Rattle.csp_log.specs.declared.shown.ItemShown.TheVariants as item
use Rattle.csp_log.specs.declared.shown.AnswerShown.{AnswerShown}
use Rattle.csp_log.specs.declared.shown.AnswerShown.TheVariants as answer
use Rattle.csp_log.specs.declared.places.Place.{Place}
use Rattle.csp_log.specs.declared.places.Place.TheVariants as place
use Rattle.csp_log.specs.declared.places.QueueId.{QueueId}
use Rattle.csp_log.specs.declared.places.QueueId.TheVariants as queue
use Rattle.csp_log.specs.declared.places.Rule.TheVariants as rule

-- a queue with other items, or as it was: what an operation never changes of the queues
pub emptied-set : (qs : List PlainQueue) (at : ℕ) (q new : PlainQueue) → slice_get qs at ≡ Some q → emptied new ≡ emptied q → map emptied (slice_set qs at new) ≡ map emptied qs
emptied-set qs at q new e same = map-set_same emptied qs at new q (same ∙ ap emptied (sym (get_or_from_slice_get qs at q q e)))

unwritten : (qs : List PlainQueue) (at : ℕ) (q : PlainQueue) → slice_get qs at ≡ Some q → slice_set qs at q ≡ qs
unwritten qs at q e = ap (slice_set qs at) (sym (get_or_from_slice_get qs at q q e)) ∙ set-get_or qs at q

-- what is not changed keeps the rules
rule_kept : (qs rs : List PlainQueue) (o : Option ℕ) → map emptied rs ≡ map emptied qs
    → option_map (λ q. q.rule) (option_and_then (λ at. slice_get rs at) o) ≡ option_map (λ q. q.rule) (option_and_then (λ at. slice_get qs at) o)
rule_kept qs rs None e = refl
rule_kept qs rs (Some at) e = still (slice_get rs at) (slice_get qs at) (sym (slice_get-map emptied rs at) ∙ ap (λ xs. slice_get xs at) e ∙ slice_get-map emptied qs at) where
  still : (x y : Option PlainQueue) → option_map emptied x ≡ option_map emptied y → option_map (λ q. q.rule) x ≡ option_map (λ q. q.rule) y
  still None None same = refl
  still None (Some y) same = cc
  still (Some x) None same = cc
  still (Some x) (Some y) same = let alike : emptied x ≡ emptied y = cc in ap (λ (q : PlainQueue). Some q.rule) alike

rules_kept : (d : PlainDeck) (qs : List PlainQueue) → map emptied qs ≡ map emptied d.queues → (x : QueueId) → rule_of (record d { queues = qs }) x ≡ rule_of d x
rules_kept d qs e queue.Inbox = refl
rules_kept d qs e l = rule_kept d.queues qs (position_of d.shape (place.Lane l)) e

-- a place that is full, or empty
some_and : (o : Option PlainQueue) (q : PlainQueue) (P : PlainQueue → Type 0) → o ≡ Some q → P q → IsSomeAnd o P
some_and o q P e h = rw e h

full_there : (d : PlainDeck) (p : Place) (q : PlainQueue) → queue_at d p ≡ Some q → q.room ≤ length q.items → IsFullAt d p
full_there d place.Pool q e h = cc
full_there d p q e h = some_and (queue_at d p) q (λ q. q.room ≤ length q.items) e h

empty_there : (d : PlainDeck) (p : Place) (q : PlainQueue) → queue_at d p ≡ Some q → q.items ≡ [] → IsEmptyAt d p
empty_there d place.Pool q e h = cc
empty_there d p q e h = some_and (queue_at d p) q (λ q. q.items ≡ []) e h

-- what a queue answers to a push and to a pop
abbrev pub Pushed : PlainQueue → ItemShown → PlainQueue → Result (Unit {0}) ItemShown → Type 0
Pushed q i new r = MatchResult r (λ _. (length q.items < q.room) × (new ≡ refilled q (q.items ++ i ∷ []))) (λ j. (q.room ≤ length q.items) × (new ≡ q) × (j ≡ i))

abbrev pub Popped : PlainQueue → PlainQueue → Option ItemShown → Type 0
Popped q new r = MatchOption r ((q.items ≡ []) × (new ≡ q)) (λ i. (q.items ≡ i ∷ new.items) × (new ≡ refilled q new.items) × IsCarried q.rule i)

-- then it differs in its items alone
pub push_keeps : (q : PlainQueue) (i : ItemShown) (new : PlainQueue) (r : Result (Unit {0}) ItemShown) → Pushed q i new r → emptied new ≡ emptied q
push_keeps q i new (Ok u) fact = ap emptied fact.1
push_keeps q i new (Err j) fact = ap emptied fact.1

pub pop_keeps : (q new : PlainQueue) (r : Option ItemShown) → Popped q new r → emptied new ≡ emptied q
pop_keeps q new None fact = ap emptied fact.1
pop_keeps q new (Some i) fact = ap emptied fact.1

-- a queue's push is the deck's
pub pushes_so : (d : PlainDeck) (l : QueueId) (i : ItemShown) (at : ℕ) (q new : PlainQueue) (r : Result (Unit {0}) ItemShown)
    → position_of d.shape (place_for l i) ≡ Some at → slice_get d.queues at ≡ Some q
    → Pushed q i new r → PushesSo d l i r (record d { queues = slice_set d.queues at new })
pushes_so d l i at q new (Ok u) there e fact = record {
  answer = rw (there, e, lt-ltb (length q.items) q.room fact.0, there) (ap (λ s. let a : AnswerShown × PlainDeck = (answer.Pushed, record d { queues = slice_set d.queues at s }) in a) (sym fact.1));
  full = tt;
  back = tt;
  rules = rules_kept d (slice_set d.queues at new) (emptied-set d.queues at q new e (ap emptied fact.1));
}
pushes_so d l i at q new (Err j) there e fact =
    let as_was : slice_set d.queues at new ≡ d.queues = ap (slice_set d.queues at) fact.1 ∙ unwritten d.queues at q e in
    record {
      answer = rw (there, e, le-ltb (length q.items) q.room fact.0, as_was, fact.2) refl;
      full = full_there d (place_for l i) q (rw (there) e) fact.0;
      back = fact.2;
      rules = rules_kept d (slice_set d.queues at new) (ap (map emptied) as_was);
    }

pub with_there : (d : PlainDeck) (p : Place) (q s : PlainQueue) → queue_at d p ≡ Some q → emptied s ≡ emptied q → map emptied (with_queue d p s).queues ≡ map emptied d.queues
with_there d p q s e same = by (position_of d.shape p) e where
  by : (o : Option ℕ) → option_and_then (λ at. slice_get d.queues at) o ≡ Some q → map emptied (with_nth d.queues o s) ≡ map emptied d.queues
  by None h = refl
  by (Some at) h = emptied-set d.queues at q s h same

all_append : (P : Place → Type 0) (ps qs : List Place) → AllByRecursion P ps → AllByRecursion P qs → AllByRecursion P (ps ++ qs)
all_append P [] qs h g = g
all_append P (p ∷ ps) qs h g = (h.0, all_append P ps qs h.1 g)

-- a queue's pop is the deck's, where the places before it are empty, and where it is empty itself those after it
module _ (d : PlainDeck) (l : QueueId) (before after : List Place) (at : ℕ) (q new : PlainQueue)
    (places : places_of l ≡ before ++ pops_at d l ∷ after) (passed : AllByRecursion (IsEmptyAt d) before) (last : IsEmptyAt d (pops_at d l) → AllByRecursion (IsEmptyAt d) after)
    (told : (i : ItemShown) → IsCarried q.rule i → (passed_over l i ≡ before) × IsCarriedIn (rule_of d l) i)
    (there : position_of d.shape (pops_at d l) ≡ Some at) (e : slice_get d.queues at ≡ Some q) where
  pops_so : (r : Option ItemShown) → Popped q new r → PopsSo d l r (record d { queues = slice_set d.queues at new })
  pops_so None fact =
      let as_was : slice_set d.queues at new ≡ d.queues = ap (slice_set d.queues at) fact.1 ∙ unwritten d.queues at q e in
      let here = empty_there d (pops_at d l) q (rw there e) fact.0 in
      record {
        answer = rw (there, e, fact.0, as_was) refl;
        empty = rw places (all_append (IsEmptyAt d) before (pops_at d l ∷ after) passed (here, last here));
        carried = tt;
        rules = rules_kept d (slice_set d.queues at new) (ap (map emptied) as_was);
      }
  pops_so (Some i) fact = record {
    answer = rw (there, e, fact.0, there) (ap (λ s. let a : AnswerShown × PlainDeck = (answer.Popped i, record d { queues = slice_set d.queues at s }) in a) (sym fact.1));
    empty = rw (told i fact.2).0 passed;
    carried = (told i fact.2).1;
    rules = rules_kept d (slice_set d.queues at new) (emptied-set d.queues at q new e (ap emptied fact.1));
  }

-- an item of a queue of the inbox is of its priority
of_priority : (p : Prio) (i : ItemShown) (q : PlainQueue) → q.rule ≡ rule.Priority p → IsCarried q.rule i → (passed_over queue.Inbox i ≡ places_before p) × IsCarried rule.Inbox i
of_priority p i q e c = by i (rw e at c) where
  by : (i : ItemShown) → IsCarried (rule.Priority p) i → (passed_over queue.Inbox i ≡ places_before p) × IsCarried rule.Inbox i
  by (item.Packet m b) c = (ap places_before c.1, c.0)
  by (item.Frame f) c = absurd c
  by (item.Note n) c = absurd c

-- the queues of the inbox after that of a priority
abbrev places_after : Prio → List Place
places_after Critical = place.Inbox High ∷ place.Inbox Normal ∷ place.Inbox Low ∷ []
places_after High = place.Inbox Normal ∷ place.Inbox Low ∷ []
places_after Normal = place.Inbox Low ∷ []
places_after Low = []

inbox_split : (p : Prio) → places_of queue.Inbox ≡ places_before p ++ place.Inbox p ∷ places_after p
inbox_split Critical = refl
inbox_split High = refl
inbox_split Normal = refl
inbox_split Low = refl

-- before the most urgent packet the inbox is empty; and where it is empty there too, it is empty after it
nothing : (o : Option PlainQueue) → IsSome o → has_items o ≡ false → IsSomeAnd o (λ q. q.items ≡ [])
nothing None s e = cc
nothing (Some q) s e = none q.items e where
  none : (items : List ItemShown) → ltb 0 (length items) ≡ false → items ≡ []
  none [] h = refl
  none (i ∷ items) h = let some = lt-ltb 0 (suc (length items)) (omega arith) in cc

something : (o : Option PlainQueue) → has_items o ≡ true → IsSomeAnd o (λ q. q.items ≡ []) → ⊥
something None e h = cc
something (Some q) e h = let some : ltb 0 (length q.items) ≡ false = rw h refl in cc

module _ (d : PlainDeck) (exists : (p : Prio) → IsSome (queue_at d (place.Inbox p))) where
  none : (p : Prio) → has_packet d p ≡ false → IsEmptyAt d (place.Inbox p)
  none p e = nothing (queue_at d (place.Inbox p)) (exists p) e

  first_packet : (p : Prio) → has_packet d p ≡ true → IsEmptyAt d (place.Inbox p) → AllByRecursion (IsEmptyAt d) (places_after p)
  first_packet p e h = absurd (something (queue_at d (place.Inbox p)) e h)

  most_urgent_so : (b c f : Bool) → has_packet d Critical ≡ b → has_packet d High ≡ c → has_packet d Normal ≡ f
      → let p = first_with b c f in AllByRecursion (IsEmptyAt d) (places_before p) × (IsEmptyAt d (place.Inbox p) → AllByRecursion (IsEmptyAt d) (places_after p))
  most_urgent_so true c f x y z = (tt, first_packet Critical x)
  most_urgent_so false true f x y z = ((none Critical x, tt), first_packet High y)
  most_urgent_so false false true x y z = ((none Critical x, (none High y, tt)), first_packet Normal z)
  most_urgent_so false false false x y z = ((none Critical x, (none High y, (none Normal z, tt))), λ h. tt)

  lane_pops : (l : QueueId) (at : ℕ) (q new : PlainQueue) → places_of l ≡ pops_at d l ∷ [] → ((i : ItemShown) → passed_over l i ≡ []) → rule_of d l ≡ option_map (λ q. q.rule) (queue_at d (pops_at d l))
      → position_of d.shape (pops_at d l) ≡ Some at → slice_get d.queues at ≡ Some q → (r : Option ItemShown) → Popped q new r → PopsSo d l r (record d { queues = slice_set d.queues at new })
  lane_pops l at q new places over rules there e r fact = pops_so d l [] [] at q new places tt (λ _. tt) (λ i c. (over i, rw (rules, there, e) c)) there e r fact

  -- the pop of each queue
  pub pops_named : (l : QueueId) (at : ℕ) (q new : PlainQueue) (r : Option ItemShown) → position_of d.shape (pops_at d l) ≡ Some at → slice_get d.queues at ≡ Some q
      → ((p : Prio) → pops_at d l ≡ place.Inbox p → q.rule ≡ rule.Priority p) → Popped q new r → PopsSo d l r (record d { queues = slice_set d.queues at new })
  pops_named queue.Inbox at q new r there e ruled fact =
      let p = most_urgent d in
      let w = most_urgent_so (has_packet d Critical) (has_packet d High) (has_packet d Normal) refl refl refl in
      pops_so d queue.Inbox (places_before p) (places_after p) at q new (inbox_split p) w.0 w.1 (λ i c. of_priority p i q (ruled p refl) c) there e r fact
  pops_named l at q new r there e ruled fact = lane_pops l at q new refl (λ _. refl) refl there e r fact

  -- the pop of a queue without items changes nothing
  pub none_pops : (l : QueueId) (at : ℕ) (q : PlainQueue) → position_of d.shape (pops_at d l) ≡ Some at → slice_get d.queues at ≡ Some q
      → ((p : Prio) → pops_at d l ≡ place.Inbox p → q.rule ≡ rule.Priority p) → q.items ≡ [] → PopsSo d l None d
  none_pops l at q there e ruled h =
      subst (λ (qs : List PlainQueue). PopsSo d l None (record d { queues = qs })) (unwritten d.queues at q e)
      (pops_named l at q q None there e ruled (h, refl))

-- a queue that hasn't items has none
pub without_items : (q : PlainQueue) → IsTrue (not (has_items (Some q))) → q.items ≡ []
without_items q h = by q.items h where
  by : (items : List ItemShown) → IsTrue (not (nat_lt 0 (length items))) → items ≡ []
  by [] h = refl
  by (i ∷ items) h =
      let more = lt-ltb 0 (length (i ∷ items)) (omega (arith)) in
      let bad : false ≡ true = rw more at h in
      cc

-- the queue of a push carries the item
lane_carries : (d : PlainDeck) (p : Place) (i : ItemShown) (at : ℕ) (q : PlainQueue) → position_of d.shape p ≡ Some at → slice_get d.queues at ≡ Some q → IsCarriedIn (option_map (λ q. q.rule) (queue_at d p)) i → IsCarried q.rule i
lane_carries d p i at q there e c = rw (there, e) at c

pub carries_there : (d : PlainDeck) (l : QueueId) (i : ItemShown) (at : ℕ) (q : PlainQueue) → position_of d.shape (place_for l i) ≡ Some at → slice_get d.queues at ≡ Some q
    → ((p : Prio) → place_for l i ≡ place.Inbox p → q.rule ≡ rule.Priority p) → IsCarriedIn (rule_of d l) i → IsCarried q.rule i
carries_there d queue.Inbox (item.Packet m b) at q there e ruled c = rw (ruled (priority_of b) refl) (c, refl)
carries_there d queue.Inbox (item.Frame f) at q there e ruled c = absurd c
carries_there d queue.Inbox (item.Note n) at q there e ruled c = absurd c
carries_there d l i at q there e ruled c = lane_carries d (place.Lane l) i at q there e c

-- and the queue at the position of the push's place carries it
pub carries_at : (d : Inside) (order : IsInOrder d) (l : QueueId) (i : ItemShown) (at : ℕ) → position_of d.shape (place_for l i) ≡ Some at
    → IsCarriedIn (rule_of (plain_deck d) l) i → IsSomeAnd (slice_get d.queues.queues at) (λ q. IsCarried q.rule i)
carries_at d order l i at there c =
    let w = stands d order (place_for l i) at there in
    rw w.1 (carries_there (plain_deck d) l i at w.0 there w.1 (λ p e. rule_there d order (place_for l i) at w.0 there w.1 ∙ ap (rule_at order.links) e) c)
