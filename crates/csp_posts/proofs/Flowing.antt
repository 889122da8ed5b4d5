-- What comes to a party and what it hands over goes through what it has in hand, once.
use Rattle.std.proofs.Common.{◌≡◌, ◌⊎◌, inl, inr, ℕ, zero, suc, ◌+◌, ◌==◌, Bool, true, false, Option, None, Some, List, [], ◌∷◌, ◌++◌, map, sum_by, refl, sym, ap, ◌∙◌, arith}
use Rattle.std.specs.Prelude.{slice_get, if◌then◌else◌, IsSome, IsSomeAnd}
use Rattle.std.specs.List.{AllByRecursion}
use Rattle.std.specs.Option.{option_map}
use Rattle.std.proofs.lemmas.Grind.{flat_map-append}
use Rattle.std.proofs.lemmas.List.{append-nil}
use Rattle.std.proofs.lemmas.List.Sums.{sum_by-cons}
use Rattle.std.proofs.lemmas.Option.{same_Some}
use Rattle.csp_base.specs.Priority.{prio_number}
use Rattle.csp_base.specs.declared.priority.Prio.{Prio}
use Rattle.csp_base.specs.declared.priority.Prio.TheVariants.{Critical, High, Normal, Low}
use Rattle.csp_buffer.specs.Content.{Content}
use Rattle.csp_consistent.proofs.Public.{queue_apart, queue_is, queue_turned}
use Rattle.csp_consistent.specs.Pools.{given_by, taken_by}
use Rattle.csp_consistent.specs.Reading.{is_queue, put_by, got_by, of_priority, with_priority}
use Rattle.csp_deck.proofs.Public.{times-append}
use Rattle.csp_deck.specs.Carried.{priority_of}
use Rattle.csp_deck.specs.Runs.{handed_over, received}
use Rattle.csp_deck.specs.Step.{times, op_numbers, answer_numbers, item_numbers}
use Rattle.csp_ends.proofs.Public.{whole_kept}
use Rattle.csp_ends.specs.Causes.{CauseOf, HaveCauses, HasEnd}
use Rattle.csp_ends.specs.Ends.{PlainSide, PlainHome, PlainEnds, inbox_of, AreApart, AreEnds}
use Rattle.csp_ends.specs.Moves.{moved_by, side_after, home_after, post_after, ends_after, ends_after_all}
use Rattle.csp_inbox.specs.Passes as inbox
use Rattle.csp_lists.specs.PlainDeck.{numbers_of}
use Rattle.csp_log.specs.Pictures.{Fits}
use Rattle.csp_log.specs.declared.entry.Entry.{Entry}
use Rattle.csp_log.specs.declared.places.QueueId.{QueueId}
use Rattle.csp_log.specs.declared.places.QueueId.TheVariants as queue
use Rattle.csp_log.specs.declared.shown.AnswerShown.{AnswerShown}
use Rattle.csp_log.specs.declared.shown.AnswerShown.TheVariants as answer
use Rattle.csp_log.specs.declared.shown.ItemShown.{ItemShown}
use Rattle.csp_log.specs.declared.shown.ItemShown.TheVariants as item
use Rattle.csp_log.specs.declared.shown.OpShown.{OpShown}
use Rattle.csp_log.specs.declared.shown.OpShown.TheVariants as op
use Rattle.csp_posts.proofs.Tracing.{put_more, taken_more}
use Rattle.csp_posts.specs.Balance.{times_put, times_got, times_kept, times_taken_out, times_into, times_from, times_out, times_in}

-- how often a number is among the buffers of items
abbrev pub count : ℕ → List ItemShown → ℕ
count k is = times k (numbers_of is)

count_joined : (k : ℕ) (xs ys : List ItemShown) → count k (xs ++ ys) ≡ count k xs + count k ys
count_joined k xs ys = ap (times k) (flat_map-append item_numbers xs ys) ∙ times-append k (numbers_of xs) (numbers_of ys)

count_one : (k : ℕ) (i : ItemShown) → count k (i ∷ []) ≡ times k (item_numbers i)
count_one k i = ap (times k) (append-nil (item_numbers i))

-- a number where an end is of this way
abbrev part : (way puts : Bool) → ℕ → ℕ
part true true n = n
part true false n = 0
part false true n = 0
part false false n = n

part_none : (way puts : Bool) → part way puts 0 ≡ 0
part_none true true = refl
part_none true false = refl
part_none false true = refl
part_none false false = refl

part_own : (way : Bool) (n : ℕ) → part way way n ≡ n
part_own true n = refl
part_own false n = refl

-- how often a number is among what a turn moves through an end
abbrev through : Bool → ℕ → OpShown → AnswerShown → PlainSide → ℕ
through way k o a s = part way s.puts (count k (moved_by way s.queue o a))

-- sums
sum_more : {X : Type 0} (f h : X → ℕ) (g : X → X) → ((x : X) → f (g x) ≡ f x + h x) → (xs : List X) → sum_by f (map g xs) ≡ sum_by f xs + sum_by h xs
sum_more f h g one [] = refl
sum_more f h g one (x ∷ xs) =
    let after = sum_by-cons f (g x) (map g xs) in
    let before = sum_by-cons f x xs in
    let more = sum_by-cons h x xs in
    let rest = sum_more f h g one xs in
    let first = one x in
    omega (arith, after, before, more, rest, first)

sum_zero : {X : Type 0} (f : X → ℕ) (xs : List X) → ((b : ℕ) (y : X) → slice_get xs b ≡ Some y → f y ≡ 0) → sum_by f xs ≡ 0
sum_zero f [] none = refl
sum_zero f (x ∷ xs) none =
    let all = sum_by-cons f x xs in
    let first = none 0 x refl in
    let rest = sum_zero f xs (λ b y at. none (suc b) y at) in
    omega (arith, all, first, rest)

-- of numbers of which all are zero but at one place
sum_one : {X : Type 0} (f : X → ℕ) (xs : List X) (at : ℕ) (x : X) → slice_get xs at ≡ Some x → ((b : ℕ) (y : X) → slice_get xs b ≡ Some y → (b ≡ at) ⊎ (f y ≡ 0)) → sum_by f xs ≡ f x
sum_one f [] at x there others = absurd cc
sum_one f (y ∷ xs) zero x there others =
    let all = sum_by-cons f y xs in
    let rest = sum_zero f xs (λ b z got. by b z (others (suc b) z got)) in
    let first = ap f (same_Some y x there) in
    omega (arith, all, rest, first)
  where
    by : (b : ℕ) (z : _) → (suc b ≡ 0) ⊎ (f z ≡ 0) → f z ≡ 0
    by b z (inl e) = absurd (omega (arith, e))
    by b z (inr e) = e
sum_one f (y ∷ xs) (suc at) x there others =
    let all = sum_by-cons f y xs in
    let first = none (others 0 y refl) in
    let rest = sum_one f xs at x there (λ b z got. by b z (others (suc b) z got)) in
    omega (arith, all, rest, first)
  where
    none : (0 ≡ suc at) ⊎ (f y ≡ 0) → f y ≡ 0
    none (inl e) = absurd (omega (arith, e))
    none (inr e) = e

    by : (b : ℕ) (z : _) → (suc b ≡ suc at) ⊎ (f z ≡ 0) → (b ≡ at) ⊎ (f z ≡ 0)
    by b z (inl e) = inl (omega (arith, e))
    by b z (inr e) = inr e

-- what went through an end, after a turn
put_one : (ends : List PlainSide) (k : ℕ) (o : OpShown) (a : AnswerShown) (s : PlainSide) → times_put k (side_after ends o a s) ≡ times_put k s + through true k o a s
put_one ends k o a s = by s.puts where
  by : (puts : Bool) → (if puts then count k (s.end.items ++ moved_by puts s.queue o a) else 0) ≡ (if puts then count k s.end.items else 0) + part true puts (count k (moved_by true s.queue o a))
  by true = count_joined k s.end.items (put_by s.queue o a)
  by false = refl

got_one : (ends : List PlainSide) (k : ℕ) (o : OpShown) (a : AnswerShown) (s : PlainSide) → times_got k (side_after ends o a s) ≡ times_got k s + through false k o a s
got_one ends k o a s = by s.puts where
  by : (puts : Bool) → (if puts then 0 else count k (s.end.items ++ moved_by puts s.queue o a)) ≡ (if puts then 0 else count k s.end.items) + part false puts (count k (moved_by false s.queue o a))
  by true = refl
  by false = count_joined k s.end.items (got_by s.queue o a)

-- nothing goes through the ends of lanes of which the turn moves nothing
no_lane : (way : Bool) (k : ℕ) (o : OpShown) (a : AnswerShown) (ss : List PlainSide) → AllByRecursion (λ s. moved_by way s.queue o a ≡ []) ss → sum_by (through way k o a) ss ≡ 0
no_lane way k o a [] none = refl
no_lane way k o a (s ∷ ss) none =
    let all = sum_by-cons (through way k o a) s ss in
    let first = ap (λ (is : List ItemShown). part way s.puts (count k is)) none.0 ∙ part_none way s.puts in
    let rest = no_lane way k o a ss none.1 in
    omega (arith, all, first, rest)

-- what a turn moves through the lane of a name goes through the one end of that name
one_lane : (way : Bool) (k : ℕ) (o : OpShown) (a : AnswerShown) (q : QueueId) (i : ItemShown) (e : PlainEnds) → ((r : QueueId) → moved_by way r o a ≡ (if is_queue r q then i ∷ [] else []))
    → AreApart e.sides → HasEnd way q i e → sum_by (through way k o a) e.sides ≡ count k (i ∷ [])
one_lane way k o a q i e moved apart h =
    sum_one (through way k o a) e.sides h.at h.side h.there others
    ∙ ap (λ (puts : Bool). part way puts (count k (moved_by way h.side.queue o a))) h.puts
    ∙ part_own way (count k (moved_by way h.side.queue o a))
    ∙ ap (count k) (moved h.side.queue ∙ named (is_queue h.side.queue q) own)
  where
    own : is_queue h.side.queue q ≡ true
    own = queue_turned q h.side.queue h.named

    named : (is : Bool) → is ≡ true → (if is then i ∷ [] else []) ≡ i ∷ []
    named true e = refl
    named false e = absurd cc

    here : (b : ℕ) (y : PlainSide) → slice_get e.sides b ≡ Some y → is_queue y.queue q ≡ true → b ≡ h.at
    here b y got is = sym (apart h.at b h.side y h.there got (ap (is_queue h.side.queue) (queue_is y.queue q is) ∙ own))

    away : (y : PlainSide) → is_queue y.queue q ≡ false → through way k o a y ≡ 0
    away y is = ap (λ (is : List ItemShown). part way y.puts (count k is)) (moved y.queue ∙ none (is_queue y.queue q) is) ∙ part_none way y.puts where
      none : (b : Bool) → b ≡ false → (if b then i ∷ [] else []) ≡ []
      none true e = absurd cc
      none false e = refl

    others : (b : ℕ) (y : PlainSide) → slice_get e.sides b ≡ Some y → (b ≡ h.at) ⊎ (through way k o a y ≡ 0)
    others b y got = by (is_queue y.queue q) refl where
      by : (is : Bool) → is_queue y.queue q ≡ is → (b ≡ h.at) ⊎ (through way k o a y ≡ 0)
      by true is = inl (here b y got is)
      by false is = inr (away y is)

-- of a packet, one priority has it: of anything else, none has a number
sorted : (k : ℕ) (i : ItemShown) → count k (of_priority Critical i) + count k (of_priority High i) + count k (of_priority Normal i) + count k (of_priority Low i) ≡ times k (item_numbers i)
sorted k (item.Packet m b) = by (priority_of b) where
  c : ℕ
  c = times k (b.number ∷ [])

  at : Prio → Prio → ℕ
  at p q = count k (if prio_number p == prio_number q then item.Packet m b ∷ [] else [])

  by : (p : Prio) → at p Critical + at p High + at p Normal + at p Low ≡ times k (b.number ∷ [])
  by Critical = omega arith
  by High = omega arith
  by Normal = omega arith
  by Low = omega arith
sorted k (item.Frame f) = refl
sorted k (item.Note n) = refl

-- what a pass of the inbox put and got, after a turn
abbrev all_of : ℕ → List ItemShown → ℕ
all_of k is = count k (with_priority Critical is) + count k (with_priority High is) + count k (with_priority Normal is) + count k (with_priority Low is)

all_one : (k : ℕ) (i : ItemShown) → all_of k (i ∷ []) ≡ times k (item_numbers i)
all_one k i = rw (append-nil (of_priority Critical i), append-nil (of_priority High i), append-nil (of_priority Normal i), append-nil (of_priority Low i)) (sorted k i)

abbrev in_inbox : ℕ → Option inbox.PlainPass → List ItemShown → ℕ
in_inbox k None is = 0
in_inbox k (Some x) is = all_of k is

kept_more : (k : ℕ) (o : OpShown) (a : AnswerShown) (x : Option inbox.PlainPass) → times_kept k (option_map (post_after o a) x) ≡ times_kept k x + in_inbox k x (put_by queue.Inbox o a)
kept_more k o a None = refl
kept_more k o a (Some x) =
    let is = put_by queue.Inbox o a in
    let c = count_joined k x.critical.kept (with_priority Critical is) in
    let h = count_joined k x.high.kept (with_priority High is) in
    let n = count_joined k x.normal.kept (with_priority Normal is) in
    let l = count_joined k x.low.kept (with_priority Low is) in
    omega (arith, c, h, n, l)

got_more : (k : ℕ) (o : OpShown) (a : AnswerShown) (x : Option inbox.PlainPass) → times_taken_out k (option_map (post_after o a) x) ≡ times_taken_out k x + in_inbox k x (got_by queue.Inbox o a)
got_more k o a None = refl
got_more k o a (Some x) =
    let is = got_by queue.Inbox o a in
    let c = count_joined k x.critical.got (with_priority Critical is) in
    let h = count_joined k x.high.got (with_priority High is) in
    let n = count_joined k x.normal.got (with_priority Normal is) in
    let l = count_joined k x.low.got (with_priority Low is) in
    omega (arith, c, h, n, l)

none_in : (k : ℕ) (x : Option inbox.PlainPass) → in_inbox k x [] ≡ 0
none_in k None = refl
none_in k (Some x) = refl

-- what went into the pool and the inbox, after a turn, and what came from them
abbrev into_more : ℕ → OpShown → AnswerShown → Option PlainHome → ℕ
into_more k o a None = 0
into_more k o a (Some h) = times k (given_by o a) + in_inbox k h.inbox (put_by queue.Inbox o a)

abbrev from_more : ℕ → OpShown → AnswerShown → Option PlainHome → ℕ
from_more k o a None = 0
from_more k o a (Some h) = times k (taken_by a) + in_inbox k h.inbox (got_by queue.Inbox o a)

into_after : (room k : ℕ) (o : OpShown) (a : AnswerShown) (h : Option PlainHome) → times_into k (option_map (home_after room o a) h) ≡ times_into k h + into_more k o a h
into_after room k o a None = refl
into_after room k o a (Some h) =
    let put = ap (times k) (put_more room o a h.pool.hand) ∙ times-append k h.pool.hand.put (given_by o a) in
    let kept = kept_more k o a h.inbox in
    omega (arith, put, kept)

from_after : (room k : ℕ) (o : OpShown) (a : AnswerShown) (h : Option PlainHome) → Fits o a → times_from k (option_map (home_after room o a) h) ≡ times_from k h + from_more k o a h
from_after room k o a None fits = refl
from_after room k o a (Some h) fits =
    let took = ap (times k) (taken_more room o a h.pool.hand fits) ∙ times-append k h.pool.hand.taken (taken_by a) in
    let got = got_more k o a h.inbox in
    omega (arith, took, got)

-- what a turn moves, and what it hands over and brings
abbrev goes : ℕ → OpShown → AnswerShown → PlainEnds → ℕ
goes k o a e = sum_by (through true k o a) e.sides + into_more k o a e.home

abbrev comes : ℕ → OpShown → AnswerShown → PlainEnds → ℕ
comes k o a e = sum_by (through false k o a) e.sides + from_more k o a e.home

all_none : (way : Bool) (o : OpShown) (a : AnswerShown) (ss : List PlainSide) → ((q : QueueId) → moved_by way q o a ≡ []) → AllByRecursion (λ s. moved_by way s.queue o a ≡ []) ss
all_none way o a [] none = tt
all_none way o a (s ∷ ss) none = (none s.queue, all_none way o a ss none)

into_none : (k : ℕ) (o : OpShown) (a : AnswerShown) (h : Option PlainHome) → given_by o a ≡ [] → put_by queue.Inbox o a ≡ [] → into_more k o a h ≡ 0
into_none k o a None g p = refl
into_none k o a (Some h) g p = let none = none_in k h.inbox in rw (g, p) (omega (arith, none))

from_none : (k : ℕ) (o : OpShown) (a : AnswerShown) (h : Option PlainHome) → taken_by a ≡ [] → got_by queue.Inbox o a ≡ [] → from_more k o a h ≡ 0
from_none k o a None t g = refl
from_none k o a (Some h) t g = let none = none_in k h.inbox in rw (t, g) (omega (arith, none))

goes_none : (k : ℕ) (o : OpShown) (a : AnswerShown) (e : PlainEnds) → given_by o a ≡ [] → ((q : QueueId) → put_by q o a ≡ []) → goes k o a e ≡ 0
goes_none k o a e given none =
    let lanes = no_lane true k o a e.sides (all_none true o a e.sides none) in
    let home = into_none k o a e.home given (none queue.Inbox) in
    omega (arith, lanes, home)

comes_none : (k : ℕ) (o : OpShown) (a : AnswerShown) (e : PlainEnds) → taken_by a ≡ [] → ((q : QueueId) → got_by q o a ≡ []) → comes k o a e ≡ 0
comes_none k o a e taken none =
    let lanes = no_lane false k o a e.sides (all_none false o a e.sides none) in
    let home = from_none k o a e.home taken (none queue.Inbox) in
    omega (arith, lanes, home)

-- through the inbox one item goes at once
inbox_one : (k : ℕ) (i : ItemShown) (x : Option inbox.PlainPass) → IsSome x → in_inbox k x (i ∷ []) ≡ times k (item_numbers i)
inbox_one k i None there = absurd cc
inbox_one k i (Some x) there = all_one k i

some_of : {X : Type 0} (P : X → Type 0) (x : Option X) → IsSomeAnd x P → IsSome x
some_of P None h = absurd h
some_of P (Some x) h = refl

inbox_in : (k : ℕ) (i : ItemShown) (h : Option PlainHome) → IsSome (inbox_of h) → into_more k (op.Push queue.Inbox i) answer.Pushed h ≡ times k (item_numbers i)
inbox_in k i None there = absurd cc
inbox_in k i (Some h) there = let one = inbox_one k i h.inbox there in omega (arith, one)

inbox_out : (k : ℕ) (i : ItemShown) (h : Option PlainHome) → IsSome (inbox_of h) → from_more k (op.Pop queue.Inbox) (answer.Popped i) h ≡ times k (item_numbers i)
inbox_out k i None there = absurd cc
inbox_out k i (Some h) there = let one = inbox_one k i h.inbox there in omega (arith, one)

-- the law of one turn: what goes is what is handed over and doesn't come back
abbrev Flows : ℕ → OpShown → AnswerShown → PlainEnds → Type 0
Flows k o a e = goes k o a e + times k (answer_numbers a) ≡ comes k o a e + times k (op_numbers o)

lanes_none : (way : Bool) (o : OpShown) (a : AnswerShown) (ss : List PlainSide) → ((q : QueueId) → is_queue q queue.Inbox ≡ false → moved_by way q o a ≡ [])
    → AllByRecursion (λ s. is_queue queue.Inbox s.queue ≡ false) ss → AllByRecursion (λ s. moved_by way s.queue o a ≡ []) ss
lanes_none way o a [] none lanes = tt
lanes_none way o a (s ∷ ss) none lanes = (none s.queue (queue_apart queue.Inbox s.queue lanes.0), lanes_none way o a ss none lanes.1)

if_false : (i : ItemShown) (b : Bool) → b ≡ false → (if b then i ∷ [] else []) ≡ []
if_false i true e = absurd cc
if_false i false e = refl

taking : (k : ℕ) (h : Option PlainHome) (b : Content) → IsSome h → from_more k op.Take (answer.Taken b) h ≡ times k (b.number ∷ [])
taking k None b there = absurd cc
taking k (Some h) b there =
    let none = none_in k h.inbox in
    omega (arith, none)

giving : (k : ℕ) (h : Option PlainHome) (b : Content) → IsSome h → into_more k (op.Give b) answer.Given h ≡ times k (b.number ∷ [])
giving k None b there = absurd cc
giving k (Some h) b there =
    let none = none_in k h.inbox in
    omega (arith, none)

-- a push into a lane, and a pop from one
lane_pushed : (k : ℕ) (e : PlainEnds) (q : QueueId) (i : ItemShown) → AreEnds e → is_queue queue.Inbox q ≡ false → HasEnd true q i e → Flows k (op.Push q i) answer.Pushed e
lane_pushed k e q i ends lane h =
    let lanes = one_lane true k (op.Push q i) answer.Pushed q i e (λ r. refl) ends.apart h in
    let home = into_none k (op.Push q i) answer.Pushed e.home refl (if_false i (is_queue queue.Inbox q) lane) in
    let none = comes_none k (op.Push q i) answer.Pushed e refl (λ r. refl) in
    let one = count_one k i in
    omega (arith, lanes, home, none, one)

lane_popped : (k : ℕ) (e : PlainEnds) (q : QueueId) (i : ItemShown) → AreEnds e → is_queue queue.Inbox q ≡ false → HasEnd false q i e → Flows k (op.Pop q) (answer.Popped i) e
lane_popped k e q i ends lane h =
    let lanes = one_lane false k (op.Pop q) (answer.Popped i) q i e (λ r. refl) ends.apart h in
    let home = from_none k (op.Pop q) (answer.Popped i) e.home refl (if_false i (is_queue queue.Inbox q) lane) in
    let none = goes_none k (op.Pop q) (answer.Popped i) e refl (λ r. refl) in
    let one = count_one k i in
    omega (arith, lanes, home, none, one)

pushed : (k : ℕ) (e : PlainEnds) (q : QueueId) (i : ItemShown) → AreEnds e → CauseOf e (op.Push q i) answer.Pushed → Flows k (op.Push q i) answer.Pushed e
pushed k e queue.Inbox i ends cause =
    let lanes = no_lane true k (op.Push queue.Inbox i) answer.Pushed e.sides (lanes_none true (op.Push queue.Inbox i) answer.Pushed e.sides (λ q is. if_false i (is_queue q queue.Inbox) is) ends.lanes) in
    let home = inbox_in k i e.home (some_of _ (inbox_of e.home) cause) in
    let none = comes_none k (op.Push queue.Inbox i) answer.Pushed e refl (λ r. refl) in
    omega (arith, lanes, home, none)
pushed k e (queue.Up n) i ends cause = lane_pushed k e (queue.Up n) i ends refl cause
pushed k e (queue.Down n) i ends cause = lane_pushed k e (queue.Down n) i ends refl cause
pushed k e (queue.Out n) i ends cause = lane_pushed k e (queue.Out n) i ends refl cause
pushed k e (queue.Tx n) i ends cause = lane_pushed k e (queue.Tx n) i ends refl cause
pushed k e (queue.Rx n) i ends cause = lane_pushed k e (queue.Rx n) i ends refl cause

popped : (k : ℕ) (e : PlainEnds) (q : QueueId) (i : ItemShown) → AreEnds e → CauseOf e (op.Pop q) (answer.Popped i) → Flows k (op.Pop q) (answer.Popped i) e
popped k e queue.Inbox i ends cause =
    let lanes = no_lane false k (op.Pop queue.Inbox) (answer.Popped i) e.sides (lanes_none false (op.Pop queue.Inbox) (answer.Popped i) e.sides (λ q is. if_false i (is_queue q queue.Inbox) is) ends.lanes) in
    let home = inbox_out k i e.home (some_of _ (inbox_of e.home) cause) in
    let none = goes_none k (op.Pop queue.Inbox) (answer.Popped i) e refl (λ r. refl) in
    omega (arith, lanes, home, none)
popped k e (queue.Up n) i ends cause = lane_popped k e (queue.Up n) i ends refl cause
popped k e (queue.Down n) i ends cause = lane_popped k e (queue.Down n) i ends refl cause
popped k e (queue.Out n) i ends cause = lane_popped k e (queue.Out n) i ends refl cause
popped k e (queue.Tx n) i ends cause = lane_popped k e (queue.Tx n) i ends refl cause
popped k e (queue.Rx n) i ends cause = lane_popped k e (queue.Rx n) i ends refl cause

-- where the turn moves nothing
nothing_moved : (k : ℕ) (o : OpShown) (a : AnswerShown) (e : PlainEnds) → given_by o a ≡ [] → taken_by a ≡ [] → ((q : QueueId) → put_by q o a ≡ []) → ((q : QueueId) → got_by q o a ≡ [])
    → times k (answer_numbers a) ≡ times k (op_numbers o) → Flows k o a e
nothing_moved k o a e given taken put got same =
    let out = goes_none k o a e given put in
    let come = comes_none k o a e taken got in
    omega (arith, out, come, same)

flows : (k : ℕ) (o : OpShown) (a : AnswerShown) (e : PlainEnds) → AreEnds e → Fits o a → CauseOf e o a → Flows k o a e
flows k op.Nothing answer.Nothing e ends fits cause = nothing_moved k op.Nothing answer.Nothing e refl refl (λ q. refl) (λ q. refl) refl
flows k op.Take (answer.Taken b) e ends fits cause =
    let out = goes_none k op.Take (answer.Taken b) e refl (λ q. refl) in
    let lanes = no_lane false k op.Take (answer.Taken b) e.sides (all_none false op.Take (answer.Taken b) e.sides (λ q. refl)) in
    let home = taking k e.home b cause in
    omega (arith, out, lanes, home)
flows k op.Take answer.NoBuffer e ends fits cause = nothing_moved k op.Take answer.NoBuffer e refl refl (λ q. refl) (λ q. refl) refl
flows k (op.Give b) answer.Given e ends fits cause =
    let come = comes_none k (op.Give b) answer.Given e refl (λ q. refl) in
    let lanes = no_lane true k (op.Give b) answer.Given e.sides (all_none true (op.Give b) answer.Given e.sides (λ q. refl)) in
    let home = giving k e.home b cause in
    omega (arith, come, lanes, home)
flows k (op.Give b) (answer.PoolFull c) e ends fits cause = nothing_moved k (op.Give b) (answer.PoolFull c) e refl refl (λ q. refl) (λ q. refl) (ap (λ (x : Content). times k (x.number ∷ [])) fits)
flows k (op.Push q i) answer.Pushed e ends fits cause = pushed k e q i ends cause
flows k (op.Push q i) (answer.Full j) e ends fits cause = nothing_moved k (op.Push q i) (answer.Full j) e refl refl (λ r. refl) (λ r. refl) (ap (λ (x : ItemShown). times k (item_numbers x)) fits)
flows k (op.Pop q) (answer.Popped i) e ends fits cause = popped k e q i ends cause
flows k (op.Pop q) answer.Empty e ends fits cause = nothing_moved k (op.Pop q) answer.Empty e refl refl (λ r. refl) (λ r. refl) refl
flows k _ _ e ends fits cause = absurd fits

-- all that a party handed over, and all that came to it, after one turn
flows_after : (room k : ℕ) (o : OpShown) (a : AnswerShown) (e : PlainEnds) → AreEnds e → Fits o a → CauseOf e o a
    → times_out k (ends_after room o a e) + times k (answer_numbers a) + times_in k e ≡ times_in k (ends_after room o a e) + times k (op_numbers o) + times_out k e
flows_after room k o a e ends fits cause =
    let put = sum_more (times_put k) (through true k o a) (side_after e.sides o a) (put_one e.sides k o a) e.sides in
    let got = sum_more (times_got k) (through false k o a) (side_after e.sides o a) (got_one e.sides k o a) e.sides in
    let into = into_after room k o a e.home in
    let from = from_after room k o a e.home fits in
    let law = flows k o a e ends fits cause in
    omega (arith, put, got, into, from, law)

-- and after many
pub flows_after_all : (room k : ℕ) (e : PlainEnds) (es : List Entry) → AreEnds e → AllByRecursion (λ x. Fits x.op x.answer) es → HaveCauses room e es
    → times_out k (ends_after_all room e es) + times k (received es) + times_in k e ≡ times_in k (ends_after_all room e es) + times k (handed_over es) + times_out k e
flows_after_all room k e [] ends fits causes = omega arith
flows_after_all room k e (x ∷ xs) ends fits causes =
    let one = flows_after room k x.op x.answer e ends fits.0 causes.0 in
    let rest = flows_after_all room k (ends_after room x.op x.answer e) xs (whole_kept room x.op x.answer e ends) fits.1 causes.1 in
    let handed = times-append k (op_numbers x.op) (handed_over xs) in
    let came = times-append k (answer_numbers x.answer) (received xs) in
    omega (arith, one, rest, handed, came)
