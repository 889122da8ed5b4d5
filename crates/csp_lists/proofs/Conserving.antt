-- What an operation of a deck of lists leaves: it takes from the deck just what its answer brings, and leaves in it
-- just what it hands over; and it changes nothing but the items of a queue, or the buffers of the pool.
use Rattle.std.proofs.Common.{◌≡◌, ℕ, zero, suc, ◌+◌, Bool, true, false, cond, List, [], ◌∷◌, ◌++◌, length, map, Option, Some, None, refl, ◌∙◌, ap, arith, nat_lt}
use Rattle.std.specs.Prelude.{slice_get, slice_set}
use Rattle.std.specs.Option.{option_and_then}
use Rattle.std.proofs.lemmas.Grind.{flat_map-append}
use Rattle.std.proofs.lemmas.List.{append-nil}
use Rattle.csp_deck.specs.Carried.{place_for}
use Rattle.csp_lists.specs.Order.{position_of}
use Rattle.csp_buffer.specs.Content.{Content}
use Rattle.csp_lists.specs.PlainDeck.{PlainQueue, PlainDeck, queue_at, with_nth, with_queue, with_pool, refilled, emptied, taken, pushed, front_of, popped, pops_at, answer_of, buffer_numbers, numbers_of, numbers_among, numbers_in}
use Rattle.csp_deck.specs.Step.{times, item_numbers, op_numbers, answer_numbers}
use Rattle.csp_log.specs.declared.shown.ItemShown.{ItemShown}
use Rattle.csp_log.specs.declared.shown.OpShown.{OpShown}
use Rattle.csp_log.specs.declared.shown.OpShown.TheVariants as op
use Rattle.csp_log.specs.declared.shown.AnswerShown.{AnswerShown}
use Rattle.csp_log.specs.declared.shown.AnswerShown.TheVariants as answer
use Rattle.csp_log.specs.declared.places.Place.{Place}
use Rattle.csp_lists.proofs.Answering.{with_there}
use Rattle.csp_lists.proofs.Weighing.{times-append}

-- how often a number is in a deck
in_deck : (k : ℕ) (d : PlainDeck) → times k (numbers_in d) ≡ times k (buffer_numbers d.pool.items) + times k (numbers_among d.queues)
in_deck k d = times-append k (buffer_numbers d.pool.items) (numbers_among d.queues)

-- a list of items, or of buffers, that grows at its end
items_push : (k : ℕ) (items : List ItemShown) (i : ItemShown) → times k (numbers_of (items ++ i ∷ [])) ≡ times k (numbers_of items) + times k (item_numbers i)
items_push k items i =
    ap (times k) (flat_map-append item_numbers items (i ∷ []))
    ∙ times-append k (numbers_of items) (item_numbers i ++ [])
    ∙ ap (λ ns. times k (numbers_of items) + times k ns) (append-nil (item_numbers i))

pool_push : (k : ℕ) (buffers : List Content) (b : Content) → times k (buffer_numbers (buffers ++ b ∷ [])) ≡ times k (buffer_numbers buffers) + times k (b.number ∷ [])
pool_push k buffers b =
    ap (times k) (flat_map-append (λ x. x.number ∷ []) buffers (b ∷ []))
    ∙ times-append k (buffer_numbers buffers) (b.number ∷ [])

-- one queue is changed
nth_set : (k : ℕ) (qs : List PlainQueue) (at : ℕ) (old new : PlainQueue) → slice_get qs at ≡ Some old
    → times k (numbers_among (slice_set qs at new)) + times k (numbers_of old.items) ≡ times k (numbers_among qs) + times k (numbers_of new.items)
nth_set k [] at old new e = cc
nth_set k (q ∷ qs) zero old new e =
    let same : q ≡ old = cc in
    let a = times-append k (numbers_of new.items) (numbers_among qs) in
    let b = times-append k (numbers_of q.items) (numbers_among qs) in
    let s = ap (λ (x : PlainQueue). times k (numbers_of x.items)) same in
    omega (arith, a, b, s)
nth_set k (q ∷ qs) (suc at) old new e =
    let a = times-append k (numbers_of q.items) (numbers_among (slice_set qs at new)) in
    let b = times-append k (numbers_of q.items) (numbers_among qs) in
    let rest = nth_set k qs at old new e in
    omega (arith, a, b, rest)

queue_set : (k : ℕ) (d : PlainDeck) (p : Place) (old new : PlainQueue) → queue_at d p ≡ Some old
    → times k (numbers_among (with_queue d p new).queues) + times k (numbers_of old.items) ≡ times k (numbers_among d.queues) + times k (numbers_of new.items)
queue_set k d p old new e = by (position_of d.shape p) e where
  by : (o : Option ℕ) → option_and_then (λ at. slice_get d.queues at) o ≡ Some old
      → times k (numbers_among (with_nth d.queues o new)) + times k (numbers_of old.items) ≡ times k (numbers_among d.queues) + times k (numbers_of new.items)
  by None h = cc
  by (Some at) h = nth_set k d.queues at old new h

-- what an answer leaves of a deck, where these numbers were handed over
record Leaves (d : PlainDeck) (handed : List ℕ) (r : AnswerShown × PlainDeck) : Type 0 where
  numbers : (k : ℕ) → times k (numbers_in r.1) + times k (answer_numbers r.0) ≡ times k (numbers_in d) + times k handed
  queues : map emptied r.1.queues ≡ map emptied d.queues
  shape : r.1.shape ≡ d.shape
  room : r.1.pool.room ≡ d.pool.room

-- the deck as it was, with what was handed over in the answer
unchanged : (d : PlainDeck) (a : AnswerShown) → Leaves d (answer_numbers a) (a, d)
unchanged d a = record { numbers = λ k. refl; queues = refl; shape = refl; room = refl }

-- another pool
pool_leaves : (d : PlainDeck) (a : AnswerShown) (handed : List ℕ) (buffers : List Content)
    → ((k : ℕ) → times k (buffer_numbers buffers) + times k (answer_numbers a) ≡ times k (buffer_numbers d.pool.items) + times k handed) → Leaves d handed (a, with_pool d buffers)
pool_leaves d a handed buffers law = record {
  numbers = λ k. let s = in_deck k d in let t = in_deck k (with_pool d buffers) in let l = law k in omega (arith, s, t, l);
  queues = refl;
  shape = refl;
  room = refl;
}

-- another list of items in one queue
queue_leaves : (d : PlainDeck) (a : AnswerShown) (handed : List ℕ) (p : Place) (q : PlainQueue) (items : List ItemShown) → queue_at d p ≡ Some q
    → ((k : ℕ) → times k (numbers_of items) + times k (answer_numbers a) ≡ times k (numbers_of q.items) + times k handed) → Leaves d handed (a, with_queue d p (refilled q items))
queue_leaves d a handed p q items e law = record {
  numbers = λ k.
      let s = in_deck k d in
      let t = in_deck k (with_queue d p (refilled q items)) in
      let u = queue_set k d p q (refilled q items) e in
      let l = law k in
      omega (arith, s, t, u, l);
  queues = with_there d p q (refilled q items) e refl;
  shape = refl;
  room = refl;
}

taken_leaves : (d : PlainDeck) (buffers : List Content) → d.pool.items ≡ buffers → Leaves d [] (taken d buffers)
taken_leaves d [] e = unchanged d answer.NoBuffer
taken_leaves d (b ∷ buffers) e = pool_leaves d _ [] buffers (λ k. let s = ap (λ bs. times k (buffer_numbers bs)) e in let t = times-append k (b.number ∷ []) (buffer_numbers buffers) in omega (arith, s, t))

given_leaves : (d : PlainDeck) (b : Content) (room : Bool) → Leaves d (b.number ∷ []) (cond room (answer.Given, with_pool d (d.pool.items ++ b ∷ [])) (answer.PoolFull b, d))
given_leaves d b true = pool_leaves d answer.Given (b.number ∷ []) (d.pool.items ++ b ∷ []) (λ k. let t = pool_push k d.pool.items b in omega (arith, t))
given_leaves d b false = unchanged d (answer.PoolFull b)

pushed_if : (d : PlainDeck) (p : Place) (i : ItemShown) (q : PlainQueue) (room : Bool) → queue_at d p ≡ Some q
    → Leaves d (item_numbers i) (cond room (answer.Pushed, with_queue d p (refilled q (q.items ++ i ∷ []))) (answer.Full i, d))
pushed_if d p i q true e = queue_leaves d answer.Pushed (item_numbers i) p q (q.items ++ i ∷ []) e (λ k. let t = items_push k q.items i in omega (arith, t))
pushed_if d p i q false e = unchanged d (answer.Full i)

pushed_leaves : (d : PlainDeck) (p : Place) (i : ItemShown) (o : Option PlainQueue) → queue_at d p ≡ o → Leaves d (item_numbers i) (pushed d p i o)
pushed_leaves d p i None e = unchanged d (answer.Full i)
pushed_leaves d p i (Some q) e = pushed_if d p i q (nat_lt (length q.items) q.room) e

front_leaves : (d : PlainDeck) (p : Place) (q : PlainQueue) (items : List ItemShown) → queue_at d p ≡ Some q → q.items ≡ items → Leaves d [] (front_of d p q items)
front_leaves d p q [] e f = unchanged d answer.Empty
front_leaves d p q (i ∷ items) e f =
    queue_leaves d (answer.Popped i) [] p q items e (λ k. let s = ap (λ is. times k (numbers_of is)) f in let t = times-append k (item_numbers i) (numbers_of items) in omega (arith, s, t))

popped_leaves : (d : PlainDeck) (p : Place) (o : Option PlainQueue) → queue_at d p ≡ o → Leaves d [] (popped d p o)
popped_leaves d p None e = unchanged d answer.Empty
popped_leaves d p (Some q) e = front_leaves d p q q.items e refl

answer_leaves : (d : PlainDeck) (o : OpShown) → Leaves d (op_numbers o) (answer_of d o)
answer_leaves d op.Nothing = unchanged d answer.Nothing
answer_leaves d op.Take = taken_leaves d d.pool.items refl
answer_leaves d (op.Give b) = given_leaves d b (nat_lt (length d.pool.items) d.pool.room)
answer_leaves d (op.Push q i) = pushed_leaves d (place_for q i) i (queue_at d (place_for q i)) refl
answer_leaves d (op.Pop q) = popped_leaves d (pops_at d q) (queue_at d (pops_at d q)) refl

pub conserved : (d : PlainDeck) (o : OpShown) (k : ℕ) → times k (numbers_in (answer_of d o).1) + times k (answer_numbers (answer_of d o).0) ≡ times k (numbers_in d) + times k (op_numbers o)
conserved d o = (answer_leaves d o).numbers

pub queues_kept : (d : PlainDeck) (o : OpShown) → map emptied (answer_of d o).1.queues ≡ map emptied d.queues
queues_kept d o = (answer_leaves d o).queues

pub shape_kept : (d : PlainDeck) (o : OpShown) → (answer_of d o).1.shape ≡ d.shape
shape_kept d o = (answer_leaves d o).shape

pub room_kept : (d : PlainDeck) (o : OpShown) → (answer_of d o).1.pool.room ≡ d.pool.room
room_kept d o = (answer_leaves d o).room
