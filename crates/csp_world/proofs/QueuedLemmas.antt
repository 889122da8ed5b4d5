-- Each queue of a deck stands where a queue does.
use Rattle.std.proofs.Common.{◌≡◌, ℕ, List, [], ◌∷◌, ◌++◌, length, map, sym, subst}
use Rattle.std.specs.Prelude.{⊤}
use Rattle.std.specs.List.{AllByRecursion, range_with_len}
use Rattle.csp_buffer.specs.Content.{Content}
use Rattle.csp_deck.specs.Carried.{places_of}
use Rattle.csp_lists.specs.Order.{lanes, places_in}
use Rattle.csp_lists.specs.PlainDeck.{PlainDeck, PlainQueue, answer_of, emptied, opening_deck, opening_queue, shape_of}
use Rattle.csp_log.specs.declared.places.Carries.{Carries}
use Rattle.csp_log.specs.declared.places.Place.{Place}
use Rattle.csp_log.specs.declared.places.Place.TheVariants as place
use Rattle.csp_log.specs.declared.places.QueueId.{QueueId}
use Rattle.csp_log.specs.declared.places.QueueId.TheVariants as queue
use Rattle.csp_log.specs.declared.shown.OpShown.{OpShown}
use Rattle.csp_world.proofs.LocalLemmas.{Keeps}

-- the place of a queue: one of the inbox, or a lane
abbrev pub IsQueued : Place → Type 0
IsQueued (place.Inbox _) = ⊤
IsQueued (place.Lane queue.Inbox) = ⊥
IsQueued (place.Lane _) = ⊤
IsQueued _ = ⊥

abbrev pub AreQueued : PlainDeck → Type 0
AreQueued d = AllByRecursion (λ q. IsQueued q.place) (map emptied d.queues)

-- so it is at the opening
all-append : {X : Type 0} (P : X → Type 0) (xs ys : List X) → AllByRecursion P xs → AllByRecursion P ys → AllByRecursion P (xs ++ ys)
all-append P [] ys h g = g
all-append P (x ∷ xs) ys h g = (h.0, all-append P xs ys h.1 g)

lanes_queued : (name : ℕ → QueueId) → ((k : ℕ) → IsQueued (place.Lane (name k))) → (ks : List ℕ) → AllByRecursion IsQueued (map (λ k. place.Lane (name k)) ks)
lanes_queued name each [] = tt
lanes_queued name each (k ∷ ks) = (each k, lanes_queued name each ks)

queues_queued : (inbox : ℕ) (links : List Carries) (ps : List Place) → AllByRecursion IsQueued ps → AllByRecursion (λ q. IsQueued q.place) (map emptied (map (opening_queue inbox links) ps))
queues_queued inbox links [] h = tt
queues_queued inbox links (p ∷ ps) h = (h.0, queues_queued inbox links ps h.1)

inbox_queued : AllByRecursion IsQueued (places_of queue.Inbox)
inbox_queued = (tt, (tt, (tt, (tt, tt))))

row_queued : (name : ℕ → QueueId) (count : ℕ) (rest : List Place) → ((k : ℕ) → IsQueued (place.Lane (name k))) → AllByRecursion IsQueued rest → AllByRecursion IsQueued (lanes name count ++ rest)
row_queued name count rest each h = all-append IsQueued (lanes name count) rest (lanes_queued name each (range_with_len 0 count)) h

places_queued : (ifaces apps : ℕ) → AllByRecursion IsQueued (places_in (record { ifaces = ifaces; apps = apps }))
places_queued ifaces apps =
    row_queued queue.Rx ifaces _ (λ k. tt) (row_queued queue.Tx ifaces _ (λ k. tt) (row_queued queue.Out ifaces _ (λ k. tt)
    (row_queued queue.Down apps _ (λ k. tt) (row_queued queue.Up apps (places_of queue.Inbox) (λ k. tt) inbox_queued))))

pub queued-opening : (buffers : List Content) (inbox apps : ℕ) (links : List Carries) → AreQueued (opening_deck buffers inbox apps links)
queued-opening buffers inbox apps links = queues_queued inbox links (places_in (shape_of apps links)) (places_queued (length links) apps)

-- and after each operation
abbrev pub KeepsQueues : Type 0
KeepsQueues = (d : PlainDeck) (o : OpShown) → map emptied (answer_of d o).1.queues ≡ map emptied d.queues

pub queued-kept : KeepsQueues → Keeps AreQueued
queued-kept law d o h = subst (λ (qs : List PlainQueue). AllByRecursion (λ q. IsQueued q.place) qs) (sym (law d o)) h
