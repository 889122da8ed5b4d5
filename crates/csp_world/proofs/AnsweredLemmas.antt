-- What the lists answer fits what was asked.
use Rattle.std.proofs.Common.{ℕ, Bool, true, false, nat_lt, cond, Option, None, Some, List, [], ◌∷◌, length, refl}
use Rattle.std.specs.Prelude.{slice_get}
use Rattle.std.specs.Option.{option_map}
use Rattle.csp_buffer.specs.Content.{Content}
use Rattle.csp_deck.specs.Carried.{place_for}
use Rattle.csp_lists.specs.PlainDeck.{PlainDeck, PlainQueue, answer_of, given, pushed, popped, taken, front_of, pops_at, queue_at}
use Rattle.csp_log.specs.Pictures.{Fits}
use Rattle.csp_log.specs.declared.places.End.{End}
use Rattle.csp_log.specs.declared.places.Place.{Place}
use Rattle.csp_log.specs.declared.places.QueueId.{QueueId}
use Rattle.csp_log.specs.declared.shown.AnswerShown.{AnswerShown}
use Rattle.csp_log.specs.declared.shown.AnswerShown.TheVariants as answer
use Rattle.csp_log.specs.declared.shown.ItemShown.{ItemShown}
use Rattle.csp_log.specs.declared.shown.OpShown.{OpShown}
use Rattle.csp_log.specs.declared.shown.OpShown.TheVariants as op
use Rattle.csp_nodes.specs.Serving.{answer_at, answer_in, answer_there, at_queue, goes, no_lists}
use Rattle.csp_log.specs.Who.{node_of}
use Rattle.csp_log.specs.declared.who.Who.{Who}

fits_taken : (d : PlainDeck) (bs : List Content) → Fits op.Take (taken d bs).0
fits_taken d [] = tt
fits_taken d (b ∷ bs) = tt

fits_given : (d : PlainDeck) (b : Content) → Fits (op.Give b) (given d b).0
fits_given d b = by (nat_lt (length d.pool.items) d.pool.room) _ _ where
  by : (room : Bool) (e f : PlainDeck) → Fits (op.Give b) (cond {A = AnswerShown × PlainDeck} room (answer.Given, e) (answer.PoolFull b, f)).0
  by true e f = tt
  by false e f = refl

fits_pushed : (d : PlainDeck) (q : QueueId) (i : ItemShown) (there : Option PlainQueue) → Fits (op.Push q i) (pushed d (place_for q i) i there).0
fits_pushed d q i None = refl
fits_pushed d q i (Some there) = by (nat_lt (length there.items) there.room) _ _ where
  by : (room : Bool) (e f : PlainDeck) → Fits (op.Push q i) (cond {A = AnswerShown × PlainDeck} room (answer.Pushed, e) (answer.Full i, f)).0
  by true e f = tt
  by false e f = refl

fits_popped : (d : PlainDeck) (q : QueueId) (p : Place) (there : Option PlainQueue) → Fits (op.Pop q) (popped d p there).0
fits_popped d q p None = tt
fits_popped d q p (Some there) = by there.items where
  by : (is : List ItemShown) → Fits (op.Pop q) (front_of d p there is).0
  by [] = tt
  by (i ∷ is) = tt

-- so it is with the answer of one node's lists
fits_of : (d : PlainDeck) (o : OpShown) → Fits o (answer_of d o).0
fits_of d op.Nothing = tt
fits_of d op.Take = fits_taken d d.pool.items
fits_of d (op.Give b) = fits_given d b
fits_of d (op.Push q i) = fits_pushed d q i (queue_at d (place_for q i))
fits_of d (op.Pop q) = fits_popped d q (pops_at d q) (queue_at d (pops_at d q))

-- a queue may have another name where it is
push_named : (q r : QueueId) (i : ItemShown) (a : AnswerShown) → Fits (op.Push r i) a → Fits (op.Push q i) a
push_named q r i answer.Nothing h = h
push_named q r i (answer.Taken b) h = h
push_named q r i answer.NoBuffer h = h
push_named q r i answer.Given h = h
push_named q r i (answer.PoolFull b) h = h
push_named q r i answer.Pushed h = h
push_named q r i (answer.Full j) h = h
push_named q r i (answer.Popped j) h = h
push_named q r i answer.Empty h = h

pop_named : (q r : QueueId) (a : AnswerShown) → Fits (op.Pop r) a → Fits (op.Pop q) a
pop_named q r answer.Nothing h = h
pop_named q r (answer.Taken b) h = h
pop_named q r answer.NoBuffer h = h
pop_named q r answer.Given h = h
pop_named q r (answer.PoolFull b) h = h
pop_named q r answer.Pushed h = h
pop_named q r (answer.Full j) h = h
pop_named q r (answer.Popped j) h = h
pop_named q r answer.Empty h = h

-- the operation that is served fits what the one fits that was asked
fits_at : (decks : List PlainDeck) (o : OpShown) (there : ℕ × OpShown) → ((a : AnswerShown) → Fits there.1 a → Fits o a) → (d : Option PlainDeck) → Fits o (answer_at decks o there d).0
fits_at decks o there same None = fits_of no_lists o
fits_at decks o there same (Some d) =
    same _ (fits_of d there.1)

fits_home : (decks : List PlainDeck) (o : OpShown) (home : Option ℕ) → Fits o (answer_there decks o (option_map (λ node. (node, o)) home)).0
fits_home decks o None = fits_of no_lists o
fits_home decks o (Some node) = fits_at decks o (node, o) (λ a h. h) (slice_get decks node)

fits_push : (decks : List PlainDeck) (q : QueueId) (i : ItemShown) (there : Option (ℕ × QueueId))
    → Fits (op.Push q i) (answer_there decks (op.Push q i) (option_map (at_queue (λ r. op.Push r i)) there)).0
fits_push decks q i None = fits_of no_lists (op.Push q i)
fits_push decks q i (Some there) = fits_at decks (op.Push q i) (there.0, op.Push there.1 i) (push_named q there.1 i) (slice_get decks there.0)

fits_pop : (decks : List PlainDeck) (q : QueueId) (there : Option (ℕ × QueueId)) → Fits (op.Pop q) (answer_there decks (op.Pop q) (option_map (at_queue op.Pop) there)).0
fits_pop decks q None = fits_of no_lists (op.Pop q)
fits_pop decks q (Some there) = fits_at decks (op.Pop q) (there.0, op.Pop there.1) (pop_named q there.1) (slice_get decks there.0)

-- and with the answer of all nodes' lists
pub fits_answer : (decks : List PlainDeck) (links : List (List End)) (w : Who) (o : OpShown) → Fits o (answer_in decks links w o).0
fits_answer decks links w op.Nothing = fits_home decks op.Nothing (node_of w)
fits_answer decks links w op.Take = fits_home decks op.Take (node_of w)
fits_answer decks links w (op.Give b) = fits_home decks (op.Give b) (node_of w)
fits_answer decks links w (op.Push q i) = fits_push decks q i (goes links w q)
fits_answer decks links w (op.Pop q) = fits_pop decks q (goes links w q)
