-- What a turn puts into a lane, and gets there, by the name of its party.
use Rattle.std.proofs.Common.{◌≡◌, ℕ, ◌==◌, ◌&&◌, Bool, true, false, Option, None, Some, List, [], refl, sym, subst, ap, ◌∙◌}
use Rattle.std.specs.Prelude.{if◌then◌else◌}
use Rattle.std.specs.Option.{option_map}
use Rattle.std.proofs.Math.Bool.{and-false}
use Rattle.std.proofs.lemmas.Bool.{eqb-true}
use Rattle.csp_consistent.proofs.Public.{queue_is, queue_same}
use Rattle.csp_consistent.specs.Lanes.{IsRefused}
use Rattle.csp_consistent.specs.Queues.{MayAsk, MayPop, MayPush}
use Rattle.csp_consistent.specs.Reading.{got_by, is_queue, put_by}
use Rattle.csp_deck.specs.Carried.{place_for}
use Rattle.csp_lists.specs.PlainDeck.{PlainDeck, pops_at}
use Rattle.csp_log.specs.declared.places.End.{End}
use Rattle.csp_log.specs.declared.places.Place.TheVariants as place
use Rattle.csp_log.specs.declared.places.QueueId.{QueueId}
use Rattle.csp_log.specs.declared.places.QueueId.TheVariants as queue
use Rattle.csp_log.specs.declared.shown.AnswerShown.{AnswerShown}
use Rattle.csp_log.specs.declared.shown.AnswerShown.TheVariants as answer
use Rattle.csp_log.specs.declared.shown.ItemShown.{ItemShown}
use Rattle.csp_log.specs.declared.shown.ItemShown.TheVariants as item
use Rattle.csp_log.specs.declared.shown.OpShown.{OpShown}
use Rattle.csp_log.specs.declared.shown.OpShown.TheVariants as op
use Rattle.csp_nodes.specs.Serving.{at_queue, goes, served}
use Rattle.csp_log.specs.Who.{node_of, is_who}
use Rattle.csp_log.specs.declared.who.Who.{Who}
use Rattle.csp_topology.specs.Lanes.{PlainLane}
use Rattle.csp_world.proofs.ContentLemmas.{if_named, is_named, popped_out, pushed_in}
use Rattle.csp_world.proofs.MovedLemmas.{got_at, got_there, put_at, put_there}

-- ---- the place of a lane

abbrev pub IsLane : QueueId → Type 0
IsLane q = is_queue q queue.Inbox ≡ false

pub and_true : (b : Bool) → (b && true) ≡ b
and_true true = refl
and_true false = refl

pub lane_named : (q : QueueId) → is_named q 0 (place.Lane q) ≡ true
lane_named q = rw (queue_same q) refl

pub lane_place : (q : QueueId) → IsLane q → (i : ItemShown) → place_for q i ≡ place.Lane q
lane_place queue.Inbox h i = absurd cc
lane_place (queue.Up n) h i = refl
lane_place (queue.Down n) h i = refl
lane_place (queue.Out n) h i = refl
lane_place (queue.Tx n) h i = refl
lane_place (queue.Rx n) h i = refl

-- a push goes there, and a pop, where its queue is the lane
pushed_named : (q : QueueId) → IsLane q → (r : QueueId) (i : ItemShown) → is_named q 0 (place_for r i) ≡ is_queue q r
pushed_named q h queue.Inbox (item.Packet mk b) = rw h refl
pushed_named q h queue.Inbox (item.Frame f) = rw h refl
pushed_named q h queue.Inbox (item.Note x) = rw h refl
pushed_named q h (queue.Up k) i = and_true (is_queue q (queue.Up k))
pushed_named q h (queue.Down k) i = and_true (is_queue q (queue.Down k))
pushed_named q h (queue.Out k) i = and_true (is_queue q (queue.Out k))
pushed_named q h (queue.Tx k) i = and_true (is_queue q (queue.Tx k))
pushed_named q h (queue.Rx k) i = and_true (is_queue q (queue.Rx k))

popped_named : (q : QueueId) → IsLane q → (d : PlainDeck) (r : QueueId) → is_named q 0 (pops_at d r) ≡ is_queue q r
popped_named q h d queue.Inbox = rw h refl
popped_named q h d (queue.Up k) = and_true (is_queue q (queue.Up k))
popped_named q h d (queue.Down k) = and_true (is_queue q (queue.Down k))
popped_named q h d (queue.Out k) = and_true (is_queue q (queue.Out k))
popped_named q h d (queue.Tx k) = and_true (is_queue q (queue.Tx k))
popped_named q h d (queue.Rx k) = and_true (is_queue q (queue.Rx k))

-- ---- what an entry moves

pub empty_if : (so : Bool) → if_named so [] ≡ []
empty_if true = refl
empty_if false = refl

if_both : (so other : Bool) (is : List ItemShown) → if_named so (if_named other is) ≡ if_named (so && other) is
if_both true other is = refl
if_both false other is = refl

pub put_as : (q r : QueueId) (i : ItemShown) (a : AnswerShown) → put_by q (op.Push r i) a ≡ if_named (is_queue q r) (pushed_in i a)
put_as q r i answer.Pushed = refl
put_as q r i answer.Nothing = sym (empty_if (is_queue q r))
put_as q r i (answer.Taken c) = sym (empty_if (is_queue q r))
put_as q r i answer.NoBuffer = sym (empty_if (is_queue q r))
put_as q r i answer.Given = sym (empty_if (is_queue q r))
put_as q r i (answer.PoolFull c) = sym (empty_if (is_queue q r))
put_as q r i (answer.Full j) = sym (empty_if (is_queue q r))
put_as q r i (answer.Popped j) = sym (empty_if (is_queue q r))
put_as q r i answer.Empty = sym (empty_if (is_queue q r))

pub got_as : (q r : QueueId) (a : AnswerShown) → got_by q (op.Pop r) a ≡ if_named (is_queue q r) (popped_out a)
got_as q r (answer.Popped i) = refl
got_as q r answer.Nothing = sym (empty_if (is_queue q r))
got_as q r (answer.Taken c) = sym (empty_if (is_queue q r))
got_as q r answer.NoBuffer = sym (empty_if (is_queue q r))
got_as q r answer.Given = sym (empty_if (is_queue q r))
got_as q r (answer.PoolFull c) = sym (empty_if (is_queue q r))
got_as q r answer.Pushed = sym (empty_if (is_queue q r))
got_as q r (answer.Full j) = sym (empty_if (is_queue q r))
got_as q r answer.Empty = sym (empty_if (is_queue q r))

-- ---- who uses a lane

-- whether a queue that a party names is this one of this node
abbrev pub goes_is : ℕ → QueueId → Option (ℕ × QueueId) → Bool
goes_is node q None = false
goes_is node q (Some s) = (s.0 == node) && is_queue q s.1

-- of all that a party may push, what goes to a lane is what it pushes to the lane's one end by the name of that; and so of what it may pop
abbrev pub Pushes : List (List End) → PlainLane → Who → Type 0
Pushes links l w = (r : QueueId) (i : ItemShown) → MayPush w r i → (is_who l.from.who w && is_queue l.from.queue r) ≡ goes_is l.node l.queue (goes links w r)

abbrev pub Pops : List (List End) → PlainLane → Who → Type 0
Pops links l w = (r : QueueId) → MayPop w r → (is_who l.to.who w && is_queue l.to.queue r) ≡ goes_is l.node l.queue (goes links w r)

-- an operation is a push to this queue of this node
pub record IsPushedTo (there : Option (ℕ × OpShown)) (node : ℕ) (q : QueueId) : Type 0 where
  pub item : ItemShown
  pub at : there ≡ Some (node, op.Push q item)

-- nothing comes to a queue of a push that is no push, and of a pop that is none
module _ (q : QueueId) (prio node : ℕ) where
  pub home_put : (home : Option ℕ) (o : OpShown) (a : AnswerShown) → put_at q prio o a ≡ [] → put_there q prio node (option_map (λ n. (n, o)) home) a ≡ []
  home_put None o a none = refl
  home_put (Some n) o a none = ap (if_named (n == node)) none ∙ empty_if (n == node)

  pub home_got : (home : Option ℕ) (o : OpShown) (d : PlainDeck) (a : AnswerShown) → got_at q prio d o a ≡ [] → got_there q prio d node (option_map (λ n. (n, o)) home) a ≡ []
  home_got None o d a none = refl
  home_got (Some n) o d a none = ap (if_named (n == node)) none ∙ empty_if (n == node)

  pub pop_put : (there : Option (ℕ × QueueId)) (a : AnswerShown) → put_there q prio node (option_map (at_queue op.Pop) there) a ≡ []
  pop_put None a = refl
  pop_put (Some s) a = empty_if (s.0 == node)

  pub push_got : (there : Option (ℕ × QueueId)) (i : ItemShown) (d : PlainDeck) (a : AnswerShown) → got_there q prio d node (option_map (at_queue (λ r. op.Push r i)) there) a ≡ []
  push_got None i d a = refl
  push_got (Some s) i d a = empty_if (s.0 == node)

module _ (links : List (List End)) (l : PlainLane) (lane : IsLane l.queue) (w : Who) where
  push_put : (there : Option (ℕ × QueueId)) (i : ItemShown) (a : AnswerShown) → put_there l.queue 0 l.node (option_map (at_queue (λ r. op.Push r i)) there) a ≡ if_named (goes_is l.node l.queue there) (pushed_in i a)
  push_put None i a = refl
  push_put (Some s) i a =
      ap (λ b. if_named (s.0 == l.node) (if_named b (pushed_in i a))) (pushed_named l.queue lane s.1 i) ∙ if_both (s.0 == l.node) (is_queue l.queue s.1) (pushed_in i a)

  pop_got : (there : Option (ℕ × QueueId)) (d : PlainDeck) (a : AnswerShown) → got_there l.queue 0 d l.node (option_map (at_queue op.Pop) there) a ≡ if_named (goes_is l.node l.queue there) (popped_out a)
  pop_got None d a = refl
  pop_got (Some s) d a =
      ap (λ b. if_named (s.0 == l.node) (if_named b (popped_out a))) (popped_named l.queue lane d s.1) ∙ if_both (s.0 == l.node) (is_queue l.queue s.1) (popped_out a)

  -- what it puts and gets by its own names is what goes there
  pub puts_same : Pushes links l w → (o : OpShown) → MayAsk w o → (a : AnswerShown) → (if is_who l.from.who w then put_by l.from.queue o a else []) ≡ put_there l.queue 0 l.node (served links w o) a
  puts_same named op.Nothing may a = empty_if (is_who l.from.who w) ∙ sym (home_put l.queue 0 l.node (node_of w) op.Nothing a refl)
  puts_same named op.Take may a = empty_if (is_who l.from.who w) ∙ sym (home_put l.queue 0 l.node (node_of w) op.Take a refl)
  puts_same named (op.Give b) may a = empty_if (is_who l.from.who w) ∙ sym (home_put l.queue 0 l.node (node_of w) (op.Give b) a refl)
  puts_same named (op.Pop r) may a = empty_if (is_who l.from.who w) ∙ sym (pop_put l.queue 0 l.node (goes links w r) a)
  puts_same named (op.Push r i) may a =
      ap (if_named (is_who l.from.who w)) (put_as l.from.queue r i a)
      ∙ if_both (is_who l.from.who w) (is_queue l.from.queue r) (pushed_in i a)
      ∙ ap (λ b. if_named b (pushed_in i a)) (named r i may)
      ∙ sym (push_put (goes links w r) i a)

  pub gets_same : Pops links l w → (o : OpShown) → MayAsk w o → (d : PlainDeck) (a : AnswerShown) → (if is_who l.to.who w then got_by l.to.queue o a else []) ≡ got_there l.queue 0 d l.node (served links w o) a
  gets_same named op.Nothing may d a = empty_if (is_who l.to.who w) ∙ sym (home_got l.queue 0 l.node (node_of w) op.Nothing d a refl)
  gets_same named op.Take may d a = empty_if (is_who l.to.who w) ∙ sym (home_got l.queue 0 l.node (node_of w) op.Take d a refl)
  gets_same named (op.Give b) may d a = empty_if (is_who l.to.who w) ∙ sym (home_got l.queue 0 l.node (node_of w) (op.Give b) d a refl)
  gets_same named (op.Push r i) may d a = empty_if (is_who l.to.who w) ∙ sym (push_got l.queue 0 l.node (goes links w r) i d a)
  gets_same named (op.Pop r) may d a =
      ap (if_named (is_who l.to.who w)) (got_as l.to.queue r a)
      ∙ if_both (is_who l.to.who w) (is_queue l.to.queue r) (popped_out a)
      ∙ ap (λ b. if_named b (popped_out a)) (named r may)
      ∙ sym (pop_got (goes links w r) d a)

  -- and what is refused is a push there
  pub refused_there : Pushes links l w → (o : OpShown) → MayAsk w o → (a : AnswerShown) → is_who l.from.who w ≡ true → IsRefused l.from.queue o a → IsPushedTo (served links w o) l.node l.queue
  refused_there named (op.Push r i) may (answer.Full j) this e =
      by (goes links w r) (sym (named r i may) ∙ (λ k. this k && e k))
    where
      both : (s t : Bool) → (s && t) ≡ true → (s ≡ true) × (t ≡ true)
      both true t g = (refl, g)
      both false t g = absurd cc

      by : (there : Option (ℕ × QueueId)) → goes_is l.node l.queue there ≡ true → IsPushedTo (option_map (at_queue (λ x. op.Push x i)) there) l.node l.queue
      by None g = absurd cc
      by (Some s) g =
          let (home, called) = both (s.0 == l.node) (is_queue l.queue s.1) g in
          record { item = i; at = λ k. Some (eqb-true s.0 l.node home k, op.Push (sym (queue_is l.queue s.1 called) k) i) }
  refused_there named _ may _ this e = absurd e

-- ---- a queue of a node's own party

-- of a queue that it may not use by another name it is enough to know whether it is of the node
pub own_named : (so here : Bool) (q r : QueueId) (May : QueueId → Type 0) → May r → (May q → so ≡ here) → (so && is_queue q r) ≡ (here && is_queue q r)
own_named so here q r May may same = by (is_queue q r) refl where
  by : (b : Bool) → is_queue q r ≡ b → (so && b) ≡ (here && b)
  by true e = ap (λ t. t && true) (same (subst May (sym (queue_is q r e)) may))
  by false e = and-false so ∙ sym (and-false here)
