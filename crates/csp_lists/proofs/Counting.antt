-- How often a number is in a deck: its holders, and a deck at its opening.
use Rattle.std.proofs.Common.{◌≡◌, ℕ, zero, suc, ◌+◌, ◌*◌, true, false, List, [], ◌∷◌, ◌++◌, length, map, replicate, slice_get, Option, None, Some, IsSome, refl, sym, ◌∙◌, ap, ltb, arith}
use Rattle.std.proofs.lemmas.Bool.{lt-ltb}
use Rattle.std.specs.Option.{option_map, option_and_then}
use Rattle.std.proofs.lemmas.Option.{slice_get-map}
use Rattle.std.proofs.lemmas.List.{append-nil, length-append, length-map, length-replicate}
use Rattle.csp_lists.specs.Gathered.{queued_numbers}
use Rattle.csp_lists.specs.Order.{places_in, position_of}
use Rattle.csp_buffer.specs.Content.{Content}
use Rattle.csp_lists.specs.PlainDeck.{PlainQueue, PlainDeck, buffer_numbers, numbers_of, numbers_among, numbers_in, holders_among, holders_of, is_in, opening_queue, opening_queues, opening_deck, queue_at, shape_of}
use Rattle.csp_deck.specs.Step.{times}
use Rattle.csp_log.specs.declared.places.Carries.{Carries}
use Rattle.csp_log.specs.declared.places.Place.{Place}
use Rattle.csp_log.specs.declared.places.Place.TheVariants as place
use Rattle.csp_lists.proofs.Weighing.{times-append}
use Rattle.csp_lists.proofs.Standing.{place_there, places_long}
use Rattle.csp_lists.proofs.Weighing.{long_same}

-- the first of all is the place of the first that holds it
pub copies_some : (n : ℕ) (p : Place) (rest : List Place) → ltb 0 n ≡ true → slice_get (replicate n p ++ rest) 0 ≡ Some p
copies_some zero p rest e = cc
copies_some (suc n) p rest e = refl

pub copies_none : (n : ℕ) (p : Place) (rest : List Place) → ltb 0 n ≡ false → replicate n p ++ rest ≡ rest
copies_none zero p rest e = refl
copies_none (suc n) p rest e = let some : ltb 0 (suc n) ≡ true = lt-ltb 0 (suc n) (omega arith) in cc

pub first_holder : (q : PlainQueue) (rest : List PlainQueue) (k : ℕ) → is_in k q ≡ true → slice_get (holders_among (q ∷ rest) k) 0 ≡ Some q.place
first_holder q rest k e = copies_some (times k (numbers_of q.items)) q.place (holders_among rest k) e

-- as many holders as numbers
among_counted : (qs : List PlainQueue) (k : ℕ) → length (holders_among qs k) ≡ times k (numbers_among qs)
among_counted [] k = refl
among_counted (q ∷ qs) k =
    let n = times k (numbers_of q.items) in
    length-append (replicate n q.place) (holders_among qs k)
    ∙ ap (λ m. m + length (holders_among qs k)) (length-replicate n q.place)
    ∙ ap (λ m. n + m) (among_counted qs k)
    ∙ sym (times-append k (numbers_of q.items) (numbers_among qs))

pub holders_counted : (d : PlainDeck) (k : ℕ) → length (holders_of d k) ≡ times k (numbers_in d)
holders_counted d k =
    let n = times k (buffer_numbers d.pool.items) in
    length-append (replicate n place.Pool) (holders_among d.queues k)
    ∙ ap (λ m. m + length (holders_among d.queues k)) (length-replicate n place.Pool)
    ∙ ap (λ m. n + m) (among_counted d.queues k)
    ∙ sym (times-append k (buffer_numbers d.pool.items) (numbers_among d.queues))

-- the numbers of a deck are those of its pool and of its queues
pub gathered_all : (d : PlainDeck) (k : ℕ) → times k (buffer_numbers d.pool.items) + times k (queued_numbers d) ≡ times k (numbers_in d)
gathered_all d k = sym (times-append k (buffer_numbers d.pool.items) (queued_numbers d))

-- nothing is in the queues at the opening
opened_none : (inbox : ℕ) (links : List Carries) (ps : List Place) → numbers_among (map (opening_queue inbox links) ps) ≡ []
opened_none inbox links [] = refl
opened_none inbox links (p ∷ ps) = opened_none inbox links ps

pub opened_numbers : (buffers : List Content) (inbox apps : ℕ) (links : List Carries) (k : ℕ) → times k (numbers_in (opening_deck buffers inbox apps links)) ≡ times k (buffer_numbers buffers)
opened_numbers buffers inbox apps links k = ap (times k) (ap (λ ns. buffer_numbers buffers ++ ns) (opened_none inbox links (places_in (shape_of apps links))) ∙ append-nil (buffer_numbers buffers))

-- and each stands at the position of its place
pub opened_stands : (buffers : List Content) (inbox apps : ℕ) (links : List Carries) (p : Place) → IsSome (position_of (shape_of apps links) p) → queue_at (opening_deck buffers inbox apps links) p ≡ Some (opening_queue inbox links p)
opened_stands buffers inbox apps links p there = by (position_of (shape_of apps links) p) refl there where
  by : (o : Option ℕ) → position_of (shape_of apps links) p ≡ o → IsSome o → option_and_then (λ at. slice_get (opening_queues inbox links (shape_of apps links)) at) o ≡ Some (opening_queue inbox links p)
  by None e h = cc
  by (Some at) e h = slice_get-map (opening_queue inbox links) (places_in (shape_of apps links)) at ∙ ap (option_map (opening_queue inbox links)) (place_there (shape_of apps links) p at e)

pub opened_queues : (buffers : List Content) (inbox apps : ℕ) (links : List Carries) → length (opening_deck buffers inbox apps links).queues ≡ 4 + 2 * apps + 3 * length links
opened_queues buffers inbox apps links =
    let long = places_long (shape_of apps links) in
    let same = length-map (places_in (shape_of apps links)) (opening_queue inbox links) in
    omega (arith, long, same)
