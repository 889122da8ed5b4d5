-- What an operation moves into a queue of a node, and out of it.
use Rattle.std.proofs.Common.{◌≡◌, ℕ, zero, suc, ◌==◌, ◌&&◌, Bool, true, false, nat_lt, cond, Option, None, Some, List, [], ◌∷◌, ◌++◌, length, map, replicate, set, refl, sym, subst, ap, ◌∙◌, arith}
use Rattle.std.specs.Prelude.{slice_get, if◌then◌else◌, IsSome}
use Rattle.std.specs.List.{AllByRecursion, flat_map}
use Rattle.std.specs.Option.{option_map, option_and_then}
use Rattle.std.proofs.lemmas.List.{append-nil, length-replicate}
use Rattle.std.proofs.lemmas.Option.{same_Some, slice_get-map}
use Rattle.csp_consistent.specs.Reading.{is_queue}
use Rattle.csp_deck.specs.Carried.{place_for}
use Rattle.csp_lists.specs.Order.{places_in, position_of}
use Rattle.csp_lists.specs.Gathered.{prio_named, queue_named}
use Rattle.csp_lists.specs.PlainDeck.{PlainDeck, PlainQueue, answer_of, emptied, front_of, opening_queue, popped, pops_at, pushed, queue_at, refilled, shape_of, with_nth, with_queue}
use Rattle.csp_lists.specs.declared.shape.Shape.{Shape}
use Rattle.csp_log.specs.declared.places.Carries.{Carries}
use Rattle.csp_log.specs.declared.places.Carries.TheVariants as lane
use Rattle.csp_log.specs.declared.places.Place.{Place}
use Rattle.csp_log.specs.declared.places.QueueId.{QueueId}
use Rattle.csp_log.specs.declared.shown.AnswerShown.{AnswerShown}
use Rattle.csp_log.specs.declared.shown.AnswerShown.TheVariants as answer
use Rattle.csp_log.specs.declared.shown.ItemShown.{ItemShown}
use Rattle.csp_log.specs.declared.shown.OpShown.TheVariants as op
use Rattle.csp_world.proofs.OpeningRules.{Stands}
use Rattle.csp_world.proofs.QueuedLemmas.{AreQueued, IsQueued}
use Rattle.csp_nodes.proofs.Public.{set_here}
use Rattle.csp_lists.proofs.Public.{position}

-- ---- the queues of a deck, by their places

-- they stand in the order of the places of a deck's shape
abbrev pub StandsRight : PlainDeck → Type 0
StandsRight d = map (λ q. q.place) d.queues ≡ places_in d.shape

-- two queues of one place are one
same_place : (d : PlainDeck) → StandsRight d → (a b : ℕ) (x y : PlainQueue) → slice_get d.queues a ≡ Some x → slice_get d.queues b ≡ Some y → y.place ≡ x.place → b ≡ a
same_place d right a b x y at there e =
    let first : slice_get (places_in d.shape) a ≡ Some x.place = ap (λ (ps : List Place). slice_get ps a) (sym right) ∙ slice_get-map (λ (q : PlainQueue). q.place) d.queues a ∙ ap (option_map (λ (q : PlainQueue). q.place)) at in
    let second : slice_get (places_in d.shape) b ≡ Some x.place = ap (λ (ps : List Place). slice_get ps b) (sym right) ∙ slice_get-map (λ (q : PlainQueue). q.place) d.queues b ∙ ap (option_map (λ (q : PlainQueue). q.place)) there ∙ ap Some e in
    same_Some b a (sym (position d.shape b x.place second) ∙ position d.shape a x.place first)

-- a list of which one element alone gives something gives what that does, and once it is changed what it gives then
only_one : {X Y : Type 0} (f : X → List Y) (xs : List X) (at : ℕ) (x : X) → slice_get xs at ≡ Some x → ((b : ℕ) (z : X) → slice_get xs b ≡ Some z → (b ≡ at → ⊥) → f z ≡ []) → flat_map f xs ≡ f x
only_one f [] at x e others = absurd cc
only_one f (z ∷ xs) zero x e others = rw (none xs (λ b y g. others (suc b) y g (λ h. absurd (omega (arith, h))))) (append-nil (f z) ∙ ap f (same_Some z x e)) where
  none : (ys : List _) → ((b : ℕ) (y : _) → slice_get ys b ≡ Some y → f y ≡ []) → flat_map f ys ≡ []
  none [] all = refl
  none (y ∷ ys) all = rw (all 0 y refl, none ys (λ b v g. all (suc b) v g)) refl
only_one f (z ∷ xs) (suc at) x e others =
    rw (others 0 z refl (λ h. absurd (omega (arith, h)))) (only_one f xs at x e (λ b y g away. others (suc b) y g (λ h. away (omega (arith, h)))))

-- where a position says that a place stands, there it does
of_place : (links : List Carries) (ps : List Place) (at : ℕ) (p : Place) → slice_get (map (opening_queue 0 links) ps) at ≡ Some (opening_queue 0 links p) → slice_get ps at ≡ Some p
of_place links [] at p e = absurd cc
of_place links (x ∷ ps) zero p e = ap (λ (q : PlainQueue). Some q.place) (same_Some (opening_queue 0 links x) (opening_queue 0 links p) e)
of_place links (x ∷ ps) (suc at) p e = of_place links ps at p e

forward_of : Stands → (apps : ℕ) (links : List Carries) (p : Place) (at : ℕ) → position_of (shape_of apps links) p ≡ Some at → slice_get (places_in (shape_of apps links)) at ≡ Some p
forward_of stands apps links p at e =
    let some : IsSome (position_of (shape_of apps links) p) = subst (λ (o : Option ℕ). IsSome o) (sym e) refl in
    of_place links (places_in (shape_of apps links)) at p
    (ap (λ (o : Option ℕ). option_and_then (slice_get (map (opening_queue 0 links) (places_in (shape_of apps links)))) o) (sym e) ∙ stands [] 0 apps links p some)

-- any shape is one of so many links
pub forward : Stands → (s : Shape) (p : Place) (at : ℕ) → position_of s p ≡ Some at → slice_get (places_in s) at ≡ Some p
forward stands s p at e =
    let links = replicate s.ifaces lane.Kiss in
    let same : shape_of s.apps links ≡ s = ap (λ (n : ℕ). record { ifaces = n; apps = s.apps }) (length-replicate s.ifaces lane.Kiss) in
    subst (λ (x : Shape). slice_get (places_in x) at ≡ Some p) same (forward_of stands s.apps links p at (ap (λ (x : Shape). position_of x p) same ∙ e))

-- the queue of a place, where it is found
pub record IsFound (d : PlainDeck) (p : Place) (x : PlainQueue) : Type 0 where
  pub at : ℕ
  pub stands : position_of d.shape p ≡ Some at
  pub there : slice_get d.queues at ≡ Some x
  pub place : x.place ≡ p

found_at : Stands → (d : PlainDeck) → StandsRight d → (p : Place) (x : PlainQueue) (o : Option ℕ) → position_of d.shape p ≡ o → option_and_then (λ at. slice_get d.queues at) o ≡ Some x → IsFound d p x
found_at stands d right p x None e g = absurd cc
found_at stands d right p x (Some at) e g =
    let named : slice_get (places_in d.shape) at ≡ Some x.place = ap (λ (ps : List Place). slice_get ps at) (sym right) ∙ slice_get-map (λ (q : PlainQueue). q.place) d.queues at ∙ ap (option_map (λ (q : PlainQueue). q.place)) g in
    record { at = at; stands = e; there = g; place = same_Some x.place p (sym named ∙ forward stands d.shape p at e) }

pub found : Stands → (d : PlainDeck) → StandsRight d → (p : Place) (x : PlainQueue) → queue_at d p ≡ Some x → IsFound d p x
found stands d right p x e = found_at stands d right p x (position_of d.shape p) refl e

-- ---- what is in a queue

-- whether a place is that of the queue of this name and priority
abbrev pub is_named : QueueId → ℕ → Place → Bool
is_named q prio y = is_queue q (queue_named y) && prio_named y == prio

abbrev pub if_named : Bool → List ItemShown → List ItemShown
if_named so items = (if so then items else [])

abbrev pub in_queue : QueueId → ℕ → PlainQueue → List ItemShown
in_queue q prio x = if_named (is_named q prio x.place) x.items

abbrev pub content : QueueId → ℕ → PlainDeck → List ItemShown
content q prio d = flat_map (in_queue q prio) d.queues

-- the name and priority are those of one place alone
abbrev pub PicksOne : QueueId → ℕ → Type 0
PicksOne q prio = (x y : Place) → IsQueued x → IsQueued y → is_named q prio x ≡ true → is_named q prio y ≡ true → y ≡ x

queued_at : (qs : List PlainQueue) (b : ℕ) (z : PlainQueue) → AllByRecursion (λ q. IsQueued q.place) (map emptied qs) → slice_get qs b ≡ Some z → IsQueued z.place
queued_at [] b z h e = absurd cc
queued_at (x ∷ qs) zero z h e = subst (λ (y : PlainQueue). IsQueued y.place) (same_Some x z e) h.0
queued_at (x ∷ qs) (suc b) z h e = queued_at qs b z h.1 e

-- decks whose queues stand right
pub record IsRight (d : PlainDeck) : Type 0 where
  pub queued : AreQueued d
  pub right : StandsRight d

pub content_found : (q : QueueId) (prio : ℕ) → PicksOne q prio → (d : PlainDeck) → IsRight d → (at : ℕ) (x : PlainQueue) → slice_get d.queues at ≡ Some x → is_named q prio x.place ≡ true → content q prio d ≡ x.items
content_found q prio one d r at x e named = only_one (in_queue q prio) d.queues at x e others ∙ ap (λ (b : Bool). if_named b x.items) named where
  others : (b : ℕ) (z : PlainQueue) → slice_get d.queues b ≡ Some z → (b ≡ at → ⊥) → in_queue q prio z ≡ []
  others b z g away = by (is_named q prio z.place) refl where
    by : (so : Bool) → is_named q prio z.place ≡ so → if_named so z.items ≡ []
    by true h = absurd (away (same_place d r.right at b x z e g (one x.place z.place (queued_at d.queues at x r.queued e) (queued_at d.queues b z r.queued g) named h)))
    by false h = refl

-- a change of another queue leaves it
content_other : (q : QueueId) (prio : ℕ) (qs : List PlainQueue) (at : ℕ) (x y : PlainQueue) → slice_get qs at ≡ Some x → y.place ≡ x.place → is_named q prio x.place ≡ false → flat_map (in_queue q prio) (set qs at y) ≡ flat_map (in_queue q prio) qs
content_other q prio [] at x y e same named = absurd cc
content_other q prio (z ∷ qs) zero x y e same named =
    let old : in_queue q prio z ≡ [] = ap (λ (w : PlainQueue). in_queue q prio w) (same_Some z x e) ∙ ap (λ (b : Bool). if_named b x.items) named in
    let new : in_queue q prio y ≡ [] = ap (λ (p : Place). if_named (is_named q prio p) y.items) same ∙ ap (λ (b : Bool). if_named b y.items) named in
    ap (λ (is : List ItemShown). is ++ flat_map (in_queue q prio) qs) (new ∙ sym old)
content_other q prio (z ∷ qs) (suc at) x y e same named = ap (λ (is : List ItemShown). in_queue q prio z ++ is) (content_other q prio qs at x y e same named)

-- ---- what an operation moves

-- a queue that is found is refilled with other items
refilled_content : (q : QueueId) (prio : ℕ) → PicksOne q prio → (d : PlainDeck) → IsRight d → (p : Place) (x : PlainQueue) → IsFound d p x → (items : List ItemShown) → IsRight (with_queue d p (refilled x items))
    → content q prio (with_queue d p (refilled x items)) ≡ (if is_named q prio p then items else content q prio d)
refilled_content q prio one d r p x f items after = by (is_named q prio p) refl where
  e : PlainDeck
  e = with_queue d p (refilled x items)

  queues : e.queues ≡ set d.queues f.at (refilled x items)
  queues = ap (λ (o : Option ℕ). with_nth d.queues o (refilled x items)) f.stands

  by : (so : Bool) → is_named q prio p ≡ so → content q prio e ≡ (if so then items else content q prio d)
  by true h =
      content_found q prio one e after f.at (refilled x items)
      (ap (λ (qs : List PlainQueue). slice_get qs f.at) queues ∙ set_here d.queues f.at x (refilled x items) f.there) (ap (is_named q prio) f.place ∙ h)
  by false h = ap (flat_map (in_queue q prio)) queues ∙ content_other q prio d.queues f.at x (refilled x items) f.there refl (ap (is_named q prio) f.place ∙ h)

found_content : (q : QueueId) (prio : ℕ) → PicksOne q prio → (d : PlainDeck) → IsRight d → (p : Place) (x : PlainQueue) → IsFound d p x → is_named q prio p ≡ true → content q prio d ≡ x.items
found_content q prio one d r p x f named = content_found q prio one d r f.at x f.there (ap (is_named q prio) f.place ∙ named)

-- a push puts its item in, a pop takes its item out
abbrev pub pushed_in : ItemShown → AnswerShown → List ItemShown
pushed_in i answer.Pushed = i ∷ []
pushed_in i _ = []

abbrev pub popped_out : AnswerShown → List ItemShown
popped_out (answer.Popped i) = i ∷ []
popped_out _ = []

none_of : (so : Bool) (items : List ItemShown) → items ≡ items ++ if_named so []
none_of true items = sym (append-nil items)
none_of false items = sym (append-nil items)

push_by : (q : QueueId) (prio : ℕ) → PicksOne q prio → (d : PlainDeck) → IsRight d → (p : Place) (i : ItemShown) (o : Option PlainQueue) → ((x : PlainQueue) → o ≡ Some x → IsFound d p x) → IsRight (pushed d p i o).1
    → content q prio (pushed d p i o).1 ≡ content q prio d ++ if_named (is_named q prio p) (pushed_in i (pushed d p i o).0)
push_by q prio one d r p i None found after = none_of (is_named q prio p) (content q prio d)
push_by q prio one d r p i (Some x) found after = by (nat_lt (length x.items) x.room) after where
  e : PlainDeck
  e = with_queue d p (refilled x (x.items ++ i ∷ []))

  so : (b : Bool) → is_named q prio p ≡ b → (if b then x.items ++ i ∷ [] else content q prio d) ≡ content q prio d ++ if_named b (i ∷ [])
  so true h = ap (λ (is : List ItemShown). is ++ i ∷ []) (sym (found_content q prio one d r p x (found x refl) h))
  so false h = sym (append-nil (content q prio d))

  by : (room : Bool) → IsRight (cond {A = AnswerShown × PlainDeck} room (answer.Pushed, e) (answer.Full i, d)).1
      → content q prio (cond {A = AnswerShown × PlainDeck} room (answer.Pushed, e) (answer.Full i, d)).1 ≡ content q prio d ++ if_named (is_named q prio p) (pushed_in i (cond {A = AnswerShown × PlainDeck} room (answer.Pushed, e) (answer.Full i, d)).0)
  by true h = refilled_content q prio one d r p x (found x refl) (x.items ++ i ∷ []) h ∙ so (is_named q prio p) refl
  by false h = none_of (is_named q prio p) (content q prio d)

pop_front : (q : QueueId) (prio : ℕ) → PicksOne q prio → (d : PlainDeck) → IsRight d → (p : Place) (x : PlainQueue) → IsFound d p x → (items : List ItemShown) → x.items ≡ items → IsRight (front_of d p x items).1
    → if_named (is_named q prio p) (popped_out (front_of d p x items).0) ++ content q prio (front_of d p x items).1 ≡ content q prio d
pop_front q prio one d r p x f [] e after = by (is_named q prio p) where
  by : (so : Bool) → if_named so [] ++ content q prio d ≡ content q prio d
  by true = refl
  by false = refl
pop_front q prio one d r p x f (i ∷ items) e after = ap (λ (is : List ItemShown). if_named (is_named q prio p) (i ∷ []) ++ is) (refilled_content q prio one d r p x f items after) ∙ by (is_named q prio p) refl where
  by : (so : Bool) → is_named q prio p ≡ so → if_named so (i ∷ []) ++ (if so then items else content q prio d) ≡ content q prio d
  by true h = sym e ∙ sym (found_content q prio one d r p x f h)
  by false h = refl

pop_by : (q : QueueId) (prio : ℕ) → PicksOne q prio → (d : PlainDeck) → IsRight d → (p : Place) (o : Option PlainQueue) → ((x : PlainQueue) → o ≡ Some x → IsFound d p x) → IsRight (popped d p o).1
    → if_named (is_named q prio p) (popped_out (popped d p o).0) ++ content q prio (popped d p o).1 ≡ content q prio d
pop_by q prio one d r p None found after = by (is_named q prio p) where
  by : (so : Bool) → if_named so [] ++ content q prio d ≡ content q prio d
  by true = refl
  by false = refl
pop_by q prio one d r p (Some x) found after = pop_front q prio one d r p x (found x refl) x.items refl after

pub push_moves : Stands → (q : QueueId) (prio : ℕ) → PicksOne q prio → (d : PlainDeck) → IsRight d → (to : QueueId) (i : ItemShown) → IsRight (answer_of d (op.Push to i)).1
    → content q prio (answer_of d (op.Push to i)).1 ≡ content q prio d ++ if_named (is_named q prio (place_for to i)) (pushed_in i (answer_of d (op.Push to i)).0)
push_moves stands q prio one d r to i after = push_by q prio one d r (place_for to i) i (queue_at d (place_for to i)) (λ x e. found stands d r.right (place_for to i) x e) after

pub pop_moves : Stands → (q : QueueId) (prio : ℕ) → PicksOne q prio → (d : PlainDeck) → IsRight d → (from : QueueId) → IsRight (answer_of d (op.Pop from)).1
    → if_named (is_named q prio (pops_at d from)) (popped_out (answer_of d (op.Pop from)).0) ++ content q prio (answer_of d (op.Pop from)).1 ≡ content q prio d
pop_moves stands q prio one d r from after = pop_by q prio one d r (pops_at d from) (queue_at d (pops_at d from)) (λ x e. found stands d r.right (pops_at d from) x e) after
