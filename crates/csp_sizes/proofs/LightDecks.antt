-- The lists of a node stay light, and what they answer is light.
use Rattle.std.proofs.Common.{slice_index_or, ◌≡◌, ℕ, zero, suc, ◌≤◌, Bool, true, false, cond, List, [], ◌∷◌, ◌++◌, length, map, slice_get, slice_set, Option, None, Some, refl, sym, ap, ◌∙◌, subst, arith}
use Rattle.std.proofs.Math.Seq.{map-set_same}
use Rattle.std.proofs.lemmas.List.Elements.{All-head, All-map, All-nil, All-push, All-set, All-tail}
use Rattle.std.proofs.lemmas.Option.{get_or_from_slice_get, slice_get-map}
use Rattle.std.specs.List.{All}
use Rattle.std.specs.Option.{option_and_then, option_map}
use Rattle.std.specs.Prelude.{IfSome, nat_lt}
use Rattle.csp_buffer.specs.Content.{Content}
use Rattle.csp_deck.specs.Carried.{place_for}
use Rattle.csp_lists.proofs.Public.{place_there}
use Rattle.csp_lists.specs.Order.{places_in, position_of}
use Rattle.csp_lists.specs.PlainDeck.{PlainDeck, PlainQueue, answer_of, front_of, given, opening_deck, opening_queue, popped, pops_at, pushed, queue_at, refilled, shape_of, taken, with_nth, with_queue, with_pool}
use Rattle.csp_log.specs.Weights.{item_bytes}
use Rattle.csp_log.specs.declared.places.Carries.{Carries}
use Rattle.csp_log.specs.declared.places.End.{End}
use Rattle.csp_log.specs.declared.places.Place.{Place}
use Rattle.csp_log.specs.declared.places.QueueId.TheVariants as queue
use Rattle.csp_log.specs.declared.places.QueueId.{QueueId}
use Rattle.csp_log.specs.declared.shown.AnswerShown.TheVariants as answer
use Rattle.csp_log.specs.declared.shown.AnswerShown.{AnswerShown}
use Rattle.csp_log.specs.declared.shown.ItemShown.TheVariants as item
use Rattle.csp_log.specs.declared.shown.ItemShown.{ItemShown}
use Rattle.csp_log.specs.declared.shown.OpShown.TheVariants as op
use Rattle.csp_log.specs.declared.shown.OpShown.{OpShown}
use Rattle.csp_nodes.specs.Serving.{answer_at, answer_in, answer_there, at_end, at_queue, goes, no_lists, served}
use Rattle.csp_log.specs.Who.{node_of}
use Rattle.csp_log.specs.declared.who.Who.TheVariants as who
use Rattle.csp_log.specs.declared.who.Who.{Who}
use Rattle.csp_sizes.specs.Light.{IsLight, IsLightAnswer, IsLightDeck, IsLightOp, IsLightQueue, room_at, room_of}

same_some : {X : Type 0} (x y : X) → Some x ≡ Some y → x ≡ y
same_some x y e = cc

pub all_there : {X : Type 0} (P : X → Type 0) (xs : List X) (at : ℕ) (x : X) → All P xs → slice_get xs at ≡ Some x → P x
all_there P [] zero x all e = absurd cc
all_there P [] (suc at) x all e = absurd cc
all_there P (y ∷ xs) zero x all e = subst P (same_some y x e) (All-head P y xs all)
all_there P (y ∷ xs) (suc at) x all e = all_there P xs at x (All-tail P y xs all) e

-- ---- the queue of a place

-- it stands there
queue_place : (d : PlainDeck) (p : Place) (q : PlainQueue) → IsLightDeck d → queue_at d p ≡ Some q → q.place ≡ p
queue_place d p q h e = by (position_of d.shape p) refl e
  where
    by : (o : Option ℕ) → position_of d.shape p ≡ o → option_and_then (λ at. slice_get d.queues at) o ≡ Some q → q.place ≡ p
    by None s f = absurd cc
    by (Some at) s f =
        let there : slice_get (places_in d.shape) at ≡ Some p = place_there d.shape p at s in
        let here : slice_get (map (λ (q : PlainQueue). q.place) d.queues) at ≡ Some q.place = slice_get-map (λ (q : PlainQueue). q.place) d.queues at ∙ ap (option_map (λ (q : PlainQueue). q.place)) f in
        same_some q.place p (sym (h.order at q.place here) ∙ there)

queue_light : (d : PlainDeck) (p : Place) (q : PlainQueue) → IsLightDeck d → queue_at d p ≡ Some q → IsLightQueue q
queue_light d p q h e = by (position_of d.shape p) e
  where
    by : (o : Option ℕ) → option_and_then (λ at. slice_get d.queues at) o ≡ Some q → IsLightQueue q
    by None f = absurd cc
    by (Some at) f = all_there IsLightQueue d.queues at q h.queues f

-- its items are so, by its place
items_light : (d : PlainDeck) (p : Place) (q : PlainQueue) → IsLightDeck d → queue_at d p ≡ Some q → All (λ i. item_bytes i ≤ room_at p) q.items
items_light d p q h e = subst (λ (x : Place). All (λ (i : ItemShown). item_bytes i ≤ room_at x) q.items) (queue_place d p q h e) (queue_light d p q h e)

-- with other items
refilled_light : (d : PlainDeck) (p : Place) (q : PlainQueue) (items : List ItemShown) → IsLightDeck d → queue_at d p ≡ Some q → All (λ i. item_bytes i ≤ room_at p) items → IsLightDeck (with_queue d p (refilled q items))
refilled_light d p q items h e all = by (position_of d.shape p) e
  where
    own : IsLightQueue (refilled q items)
    own = subst (λ (x : Place). All (λ (i : ItemShown). item_bytes i ≤ room_at x) items) (sym (queue_place d p q h e)) all

    by : (o : Option ℕ) → option_and_then (λ at. slice_get d.queues at) o ≡ Some q → IsLightDeck (record d { queues = with_nth d.queues o (refilled q items) })
    by None f = absurd cc
    by (Some at) f = record {
      pool = h.pool;
      queues = All-set IsLightQueue d.queues at (refilled q items) own h.queues;
      order = λ k x s.
          let same : map (λ (q : PlainQueue). q.place) (slice_set d.queues at (refilled q items)) ≡ map (λ (q : PlainQueue). q.place) d.queues =
          map-set_same (λ (q : PlainQueue). q.place) d.queues at (refilled q items) q (ap (λ (q : PlainQueue). q.place) (sym (get_or_from_slice_get d.queues at q q f))) in
          h.order k x (ap (λ (ps : List Place). slice_get ps k) (sym same) ∙ s);
    }

-- ---- what an operation is answered

record IsServed (o : OpShown) (x : AnswerShown × PlainDeck) : Type 0 where
  answer : IsLightAnswer o x.0
  deck : IsLightDeck x.1

with_pool_light : (d : PlainDeck) (bs : List Content) → All IsLight bs → IsLightDeck d → IsLightDeck (with_pool d bs)
with_pool_light d bs all h = record { pool = all; queues = h.queues; order = h.order }

taken_light : (d : PlainDeck) (bs : List Content) → All IsLight bs → IsLightDeck d → IsServed op.Take (taken d bs)
taken_light d [] all h = record { answer = tt; deck = h }
taken_light d (b ∷ bs) all h = record { answer = omega arith; deck = with_pool_light d bs (All-tail IsLight b bs all) h }

given_light : (d : PlainDeck) (b : Content) → IsLight b → IsLightDeck d → IsServed (op.Give b) (given d b)
given_light d b light h = go (nat_lt (length d.pool.items) d.pool.room)
  where
    go : (c : Bool) → IsServed (op.Give b) (cond c (answer.Given, with_pool d (d.pool.items ++ b ∷ [])) (answer.PoolFull b, d))
    go true = record { answer = tt; deck = with_pool_light d (d.pool.items ++ b ∷ []) (All-push IsLight d.pool.items b h.pool light) h }
    go false = record { answer = light; deck = h }

pushed_light : (d : PlainDeck) (q : QueueId) (p : Place) (i : ItemShown) (o : Option PlainQueue) → queue_at d p ≡ o → room_at p ≡ room_of q → item_bytes i ≤ room_of q → IsLightDeck d → IsServed (op.Push q i) (pushed d p i o)
pushed_light d q p i None e room light h = record { answer = light; deck = h }
pushed_light d q p i (Some x) e room light h = go (nat_lt (length x.items) x.room)
  where
    all : All (λ i. item_bytes i ≤ room_at p) (x.items ++ i ∷ [])
    all = All-push (λ (i : ItemShown). item_bytes i ≤ room_at p) x.items i (items_light d p x h e) (omega (arith, room, light))

    go : (c : Bool) → IsServed (op.Push q i) (cond c (answer.Pushed, with_queue d p (refilled x (x.items ++ i ∷ []))) (answer.Full i, d))
    go true = record { answer = tt; deck = refilled_light d p x (x.items ++ i ∷ []) h e all }
    go false = record { answer = light; deck = h }

front_light : (d : PlainDeck) (q : QueueId) (p : Place) (x : PlainQueue) (items : List ItemShown) → queue_at d p ≡ Some x → room_at p ≡ room_of q → All (λ i. item_bytes i ≤ room_at p) items → IsLightDeck d
    → IsServed (op.Pop q) (front_of d p x items)
front_light d q p x [] e room all h = record { answer = tt; deck = h }
front_light d q p x (i ∷ items) e room all h = record {
  answer = let first = All-head (λ (i : ItemShown). item_bytes i ≤ room_at p) i items all in omega (arith, room, first);
  deck = refilled_light d p x items h e (All-tail (λ (i : ItemShown). item_bytes i ≤ room_at p) i items all);
}

popped_light : (d : PlainDeck) (q : QueueId) (p : Place) (o : Option PlainQueue) → queue_at d p ≡ o → room_at p ≡ room_of q → IsLightDeck d → IsServed (op.Pop q) (popped d p o)
popped_light d q p None e room h = record { answer = tt; deck = h }
popped_light d q p (Some x) e room h = front_light d q p x x.items e room (items_light d p x h e) h

room_for : (q : QueueId) (i : ItemShown) → room_at (place_for q i) ≡ room_of q
room_for queue.Inbox (item.Packet mark b) = refl
room_for queue.Inbox (item.Frame f) = refl
room_for queue.Inbox (item.Note n) = refl
room_for (queue.Up k) i = refl
room_for (queue.Down k) i = refl
room_for (queue.Out k) i = refl
room_for (queue.Tx k) i = refl
room_for (queue.Rx k) i = refl

room_pops : (d : PlainDeck) (q : QueueId) → room_at (pops_at d q) ≡ room_of q
room_pops d queue.Inbox = refl
room_pops d (queue.Up k) = refl
room_pops d (queue.Down k) = refl
room_pops d (queue.Out k) = refl
room_pops d (queue.Tx k) = refl
room_pops d (queue.Rx k) = refl

deck_light : (d : PlainDeck) (o : OpShown) → IsLightOp o → IsLightDeck d → IsServed o (answer_of d o)
deck_light d op.Nothing light h = record { answer = tt; deck = h }
deck_light d op.Take light h = taken_light d d.pool.items h.pool h
deck_light d (op.Give b) light h = given_light d b light h
deck_light d (op.Push q i) light h = pushed_light d q (place_for q i) i (queue_at d (place_for q i)) refl (room_for q i) light h
deck_light d (op.Pop q) light h = popped_light d q (pops_at d q) (queue_at d (pops_at d q)) refl (room_pops d q) h

-- ---- the lists of all nodes

-- an operation at a node's lists is light where it is, and so is what it is answered
record IsSameOp (o there : OpShown) : Type 0 where
  op : IsLightOp o → IsLightOp there
  answer : (a : AnswerShown) → IsLightAnswer there a → IsLightAnswer o a

same_push : (q x : QueueId) (i : ItemShown) → room_of x ≡ room_of q → IsSameOp (op.Push q i) (op.Push x i)
same_push q x i e = record { op = λ h. omega (arith, e, h); answer = by }
  where
    by : (a : AnswerShown) → IsLightAnswer (op.Push x i) a → IsLightAnswer (op.Push q i) a
    by answer.Pushed h = tt
    by (answer.Full j) h = omega (arith, e, h)
    by a h = absurd h

same_pop : (q x : QueueId) → room_of x ≡ room_of q → IsSameOp (op.Pop q) (op.Pop x)
same_pop q x e = record { op = λ h. tt; answer = by }
  where
    by : (a : AnswerShown) → IsLightAnswer (op.Pop x) a → IsLightAnswer (op.Pop q) a
    by (answer.Popped j) h = omega (arith, e, h)
    by answer.Empty h = tt
    by a h = absurd h

end_room : (ends : List End) (q : QueueId) → IfSome (at_end ends q) (λ there. room_of there.1 ≡ room_of q)
end_room ends (queue.Tx k) = by (slice_get ends k)
  where
    by : (o : Option End) → IfSome {T = ℕ × QueueId} (option_map (λ (e : End). (e.node, queue.Tx e.iface)) o) (λ there. room_of there.1 ≡ 531)
    by None = tt
    by (Some e) = refl
end_room ends (queue.Rx k) = by (slice_get ends k)
  where
    by : (o : Option End) → IfSome {T = ℕ × QueueId} (option_map (λ (e : End). (e.node, queue.Rx e.iface)) o) (λ there. room_of there.1 ≡ 531)
    by None = tt
    by (Some e) = refl
end_room ends queue.Inbox = tt
end_room ends (queue.Up k) = tt
end_room ends (queue.Down k) = tt
end_room ends (queue.Out k) = tt

link_room : (o : Option (List End)) (q : QueueId) → IfSome (option_and_then (λ ends. at_end ends q) o) (λ there. room_of there.1 ≡ room_of q)
link_room None q = tt
link_room (Some ends) q = end_room ends q

goes_room : (links : List (List End)) (w : Who) (q : QueueId) → IfSome (goes links w q) (λ there. room_of there.1 ≡ room_of q)
goes_room links (who.Link k) q = link_room (slice_get links k) q
goes_room links (who.Router node) q = refl
goes_room links (who.Bridge node) q = refl
goes_room links (who.Iface node k) q = refl
goes_room links (who.App node k) q = refl

home_same : (o : OpShown) (n : Option ℕ) → IfSome {T = ℕ × OpShown} (option_map (λ node. (node, o)) n) (λ there. IsSameOp o there.1)
home_same o None = tt
home_same o (Some node) = record { op = λ h. h; answer = λ a h. h }

push_same : (q : QueueId) (i : ItemShown) (o : Option (ℕ × QueueId)) → IfSome o (λ there. room_of there.1 ≡ room_of q) → IfSome (option_map (at_queue (λ there. op.Push there i)) o) (λ there. IsSameOp (op.Push q i) there.1)
push_same q i None h = tt
push_same q i (Some there) h = same_push q there.1 i h

pop_same : (q : QueueId) (o : Option (ℕ × QueueId)) → IfSome o (λ there. room_of there.1 ≡ room_of q) → IfSome (option_map (at_queue op.Pop) o) (λ there. IsSameOp (op.Pop q) there.1)
pop_same q None h = tt
pop_same q (Some there) h = same_pop q there.1 h

served_same : (links : List (List End)) (w : Who) (o : OpShown) → IfSome (served links w o) (λ there. IsSameOp o there.1)
served_same links w op.Nothing = home_same op.Nothing (node_of w)
served_same links w op.Take = home_same op.Take (node_of w)
served_same links w (op.Give b) = home_same (op.Give b) (node_of w)
served_same links w (op.Push q i) = push_same q i (goes links w q) (goes_room links w q)
served_same links w (op.Pop q) = pop_same q (goes links w q) (goes_room links w q)

pub record AreServed (o : OpShown) (x : AnswerShown × List PlainDeck) : Type 0 where
  pub answer : IsLightAnswer o x.0
  pub decks : All IsLightDeck x.1

no_lists_light : IsLightDeck no_lists
no_lists_light = record { pool = All-nil IsLight; queues = All-nil IsLightQueue; order = by }
  where
    by : (at : ℕ) (p : Place) → slice_get (map (λ (q : PlainQueue). q.place) []) at ≡ Some p → slice_get (places_in no_lists.shape) at ≡ Some p
    by zero p e = cc
    by (suc at) p e = cc

at_light : (decks : List PlainDeck) (o : OpShown) (there : ℕ × OpShown) (x : Option PlainDeck) → slice_get decks there.0 ≡ x → IsSameOp o there.1 → IsLightOp o → All IsLightDeck decks → AreServed o (answer_at decks o there x)
at_light decks o there None e same light all = record { answer = (deck_light no_lists o light no_lists_light).answer; decks = all }
at_light decks o there (Some d) e same light all =
    let s = deck_light d there.1 (same.op light) (all_there IsLightDeck decks there.0 d all e) in
    record { answer = same.answer (answer_of d there.1).0 s.answer; decks = All-set IsLightDeck decks there.0 (answer_of d there.1).1 s.deck all }

there_light : (decks : List PlainDeck) (o : OpShown) (x : Option (ℕ × OpShown)) → IfSome x (λ there. IsSameOp o there.1) → IsLightOp o → All IsLightDeck decks → AreServed o (answer_there decks o x)
there_light decks o None same light all = record { answer = (deck_light no_lists o light no_lists_light).answer; decks = all }
there_light decks o (Some there) same light all = at_light decks o there (slice_get decks there.0) refl same light all

pub decks_light : (decks : List PlainDeck) (links : List (List End)) (w : Who) (o : OpShown) → IsLightOp o → All IsLightDeck decks → AreServed o (answer_in decks links w o)
decks_light decks links w o light all = there_light decks o (served links w o) (served_same links w o) light all

-- ---- at the opening

opened_places : (inbox : ℕ) (lanes : List Carries) (ps : List Place) → map (λ (q : PlainQueue). q.place) (map (opening_queue inbox lanes) ps) ≡ ps
opened_places inbox lanes [] = refl
opened_places inbox lanes (p ∷ ps) = ap (λ (xs : List Place). p ∷ xs) (opened_places inbox lanes ps)

pub deck_opened : (buffers : List Content) (inbox apps : ℕ) (lanes : List Carries) → All IsLight buffers → IsLightDeck (opening_deck buffers inbox apps lanes)
deck_opened buffers inbox apps lanes light = record {
  pool = light;
  queues = All-map IsLightQueue (opening_queue inbox lanes) (places_in (shape_of apps lanes)) (λ k d h. All-nil (λ (i : ItemShown). item_bytes i ≤ room_at (slice_index_or (places_in (shape_of apps lanes)) k d)));
  order = λ at p s. ap (λ (ps : List Place). slice_get ps at) (sym (opened_places inbox lanes (places_in (shape_of apps lanes)))) ∙ s;
}
