-- What goes through the ends of lanes in turns is what the lanes carry, and a push is refused only after as many puts as there is room for.
use Rattle.std.proofs.Common.{◌≡◌, ℕ, ◌+◌, ◌≤◌, Bool, true, false, Option, None, Some, List, [], ◌∷◌, ◌++◌, length, map, option_map, slice_get, refl, sym, ap, ◌∙◌, subst, arith, append-nil, append_assoc, le_trans}
use Rattle.std.specs.Prelude.{if◌then◌else◌}
use Rattle.std.specs.List.{AllByRecursion}
use Rattle.std.proofs.lemmas.Grind.{flat_map-append}
use Rattle.std.proofs.lemmas.Option.{same_Some, slice_get-map}
use Rattle.csp_consistent.proofs.Public.{queue_apart, queue_is, queue_turned}
use Rattle.csp_consistent.specs.Prompt.{AllAfter, HadNoRoom}
use Rattle.csp_consistent.specs.Reading.{is_queue, put_by, got_by, puts}
use Rattle.csp_deck.specs.Carried.{IsCarried}
use Rattle.csp_ends.proofs.Public.{whole_kept, all_at, all_from}
use Rattle.csp_ends.specs.Causes.{CauseOf, HasEnd, HasNoRoomAt, HaveCauses}
use Rattle.csp_ends.specs.Ends.{PlainNodeQueues, PlainSide, PlainEnds, AreEnds}
use Rattle.csp_ends.specs.Moves.{ends_after, ends_after_all, moved_by, room_for, side_after}
use Rattle.csp_ends.specs.Traced.{AreTraced, IsSideTraced, moved}
use Rattle.csp_log.specs.declared.entry.Entry.{Entry}
use Rattle.csp_log.specs.declared.places.QueueId.{QueueId}
use Rattle.csp_log.specs.declared.places.QueueId.TheVariants as queue
use Rattle.csp_log.specs.declared.places.Rule.TheVariants as rule
use Rattle.csp_log.specs.declared.shown.AnswerShown.{AnswerShown}
use Rattle.csp_log.specs.declared.shown.AnswerShown.TheVariants as answer
use Rattle.csp_log.specs.declared.shown.ItemShown.{ItemShown}
use Rattle.csp_log.specs.declared.shown.OpShown.{OpShown}
use Rattle.csp_log.specs.declared.shown.OpShown.TheVariants as op
use Rattle.csp_posts.proofs.Turning.{items_joined, turns_still}
use Rattle.csp_posts.specs.Posts.{PlainPost, AreTurns}
use Rattle.csp_posts.specs.Still.{still_side}
use Rattle.csp_posts.specs.Through.{IsThrough, WasCrammed}

-- what the lane of an end carries
abbrev Carried : PlainSide → ItemShown → Type 0
Carried x i = IsCarried (rule.Lane x.end.carries) i

-- the one end of a name
same_end : (e : PlainEnds) (way : Bool) (q : QueueId) (i : ItemShown) (b : ℕ) (x : PlainSide) → AreEnds e → HasEnd way q i e → slice_get e.sides b ≡ Some x → is_queue x.queue q ≡ true → Carried x i
same_end e way q i b x ends h at named =
    let called : is_queue h.side.queue x.queue ≡ true = subst (λ r. is_queue h.side.queue r ≡ true) (sym (queue_is x.queue q named)) (queue_turned q h.side.queue h.named) in
    let same : h.at ≡ b = ends.apart h.at b h.side x h.there at called in
    subst (λ (y : PlainSide). Carried y i) (same_Some h.side x (sym h.there ∙ ap (slice_get e.sides) same ∙ at)) h.carried

-- what is moved through the end of a name
moved_there : (e : PlainEnds) (way : Bool) (q : QueueId) (i : ItemShown) (b : ℕ) (x : PlainSide) → AreEnds e → HasEnd way q i e → slice_get e.sides b ≡ Some x → AllByRecursion (Carried x) (if is_queue x.queue q then i ∷ [] else [])
moved_there e way q i b x ends h at = by (is_queue x.queue q) refl where
  by : (is : Bool) → is_queue x.queue q ≡ is → AllByRecursion (Carried x) (if is then i ∷ [] else [])
  by true named = (same_end e way q i b x ends h at named, tt)
  by false named = tt

-- nothing is moved through an end of a lane by what concerns the inbox
inbox_not : (x : PlainSide) (i : ItemShown) → is_queue queue.Inbox x.queue ≡ false → AllByRecursion (Carried x) (if is_queue x.queue queue.Inbox then i ∷ [] else [])
inbox_not x i out = by (is_queue x.queue queue.Inbox) (queue_apart queue.Inbox x.queue out) where
  by : (is : Bool) → is ≡ false → AllByRecursion (Carried x) (if is then i ∷ [] else [])
  by true e = absurd cc
  by false e = tt

put_carried : (e : PlainEnds) (o : OpShown) (a : AnswerShown) (b : ℕ) (x : PlainSide) → AreEnds e → slice_get e.sides b ≡ Some x → CauseOf e o a → AllByRecursion (Carried x) (put_by x.queue o a)
put_carried e (op.Push queue.Inbox i) answer.Pushed b x ends at cause = inbox_not x i (all_at (λ (s : PlainSide). is_queue queue.Inbox s.queue ≡ false) e.sides b x at ends.lanes)
put_carried e (op.Push (queue.Up n) i) answer.Pushed b x ends at cause = moved_there e true (queue.Up n) i b x ends cause at
put_carried e (op.Push (queue.Down n) i) answer.Pushed b x ends at cause = moved_there e true (queue.Down n) i b x ends cause at
put_carried e (op.Push (queue.Out n) i) answer.Pushed b x ends at cause = moved_there e true (queue.Out n) i b x ends cause at
put_carried e (op.Push (queue.Tx n) i) answer.Pushed b x ends at cause = moved_there e true (queue.Tx n) i b x ends cause at
put_carried e (op.Push (queue.Rx n) i) answer.Pushed b x ends at cause = moved_there e true (queue.Rx n) i b x ends cause at
put_carried e (op.Push q i) _ b x ends at cause = tt
put_carried e _ _ b x ends at cause = tt

got_carried : (e : PlainEnds) (o : OpShown) (a : AnswerShown) (b : ℕ) (x : PlainSide) → AreEnds e → slice_get e.sides b ≡ Some x → CauseOf e o a → AllByRecursion (Carried x) (got_by x.queue o a)
got_carried e (op.Pop queue.Inbox) (answer.Popped i) b x ends at cause = inbox_not x i (all_at (λ (s : PlainSide). is_queue queue.Inbox s.queue ≡ false) e.sides b x at ends.lanes)
got_carried e (op.Pop (queue.Up n)) (answer.Popped i) b x ends at cause = moved_there e false (queue.Up n) i b x ends cause at
got_carried e (op.Pop (queue.Down n)) (answer.Popped i) b x ends at cause = moved_there e false (queue.Down n) i b x ends cause at
got_carried e (op.Pop (queue.Out n)) (answer.Popped i) b x ends at cause = moved_there e false (queue.Out n) i b x ends cause at
got_carried e (op.Pop (queue.Tx n)) (answer.Popped i) b x ends at cause = moved_there e false (queue.Tx n) i b x ends cause at
got_carried e (op.Pop (queue.Rx n)) (answer.Popped i) b x ends at cause = moved_there e false (queue.Rx n) i b x ends cause at
got_carried e (op.Pop q) _ b x ends at cause = tt
got_carried e _ _ b x ends at cause = tt

moved_carried : (e : PlainEnds) (o : OpShown) (a : AnswerShown) (b : ℕ) (x : PlainSide) (way : Bool) → AreEnds e → slice_get e.sides b ≡ Some x → CauseOf e o a → AllByRecursion (Carried x) (moved_by way x.queue o a)
moved_carried e o a b x true ends at cause = put_carried e o a b x ends at cause
moved_carried e o a b x false ends at cause = got_carried e o a b x ends at cause

-- an end that was there before
before_at : (f : PlainSide → PlainSide) (xs : List PlainSide) (k : ℕ) (y : PlainSide) → slice_get (map f xs) k ≡ Some y → (x : PlainSide) × (slice_get xs k ≡ Some x) × (f x ≡ y)
before_at f xs k y at = by (slice_get xs k) refl (sym (slice_get-map f xs k) ∙ at) where
  by : (o : Option PlainSide) → slice_get xs k ≡ o → option_map f o ≡ Some y → (x : PlainSide) × (slice_get xs k ≡ Some x) × (f x ≡ y)
  by None there e = absurd cc
  by (Some x) there e = (x, there, same_Some (f x) y e)

through_one : (room : ℕ) (e : PlainEnds) (o : OpShown) (a : AnswerShown) → AreEnds e → CauseOf e o a → AllByRecursion IsThrough e.sides → AllByRecursion IsThrough (ends_after room o a e).sides
through_one room e o a ends cause all = all_from IsThrough (map (side_after e.sides o a) e.sides) each where
  each : (k : ℕ) (y : PlainSide) → slice_get (map (side_after e.sides o a) e.sides) k ≡ Some y → IsThrough y
  each k y at =
      let (x, there, is) = before_at (side_after e.sides o a) e.sides k y at in
      subst IsThrough is (items_joined (Carried x) x.end.items (moved_by x.puts x.queue o a) (all_at IsThrough e.sides k x there all) (moved_carried e o a k x x.puts ends there cause))

through_all : (room : ℕ) (e : PlainEnds) (es : List Entry) → AreEnds e → HaveCauses room e es → AllByRecursion IsThrough e.sides → AllByRecursion IsThrough (ends_after_all room e es).sides
through_all room e [] ends causes all = all
through_all room e (x ∷ xs) ends causes all =
    through_all room (ends_after room x.op x.answer e) xs (whole_kept room x.op x.answer e ends) causes.1 (through_one room e x.op x.answer ends causes.0 all)

pub turns_through : (nodes : List PlainNodeQueues) (time count : ℕ) (s t : PlainPost) → AreTurns nodes time count s t → AreEnds s.ends → AllByRecursion IsThrough s.ends.sides → AllByRecursion IsThrough t.ends.sides
turns_through nodes time count s t f ends all =
    subst (λ (e : PlainEnds). AllByRecursion IsThrough e.sides) (sym f.ends) (through_all (room_for nodes s.ends.home) s.ends f.more ends f.causes all)

-- with one turn more
pub puts_push : (q : QueueId) (es : List Entry) (m : Entry) → puts q (es ++ m ∷ []) ≡ puts q es ++ put_by q m.op m.answer
puts_push q es m = flat_map-append (λ (e : Entry). put_by q e.op e.answer) es (m ∷ []) ∙ ap (λ is. puts q es ++ is) (append-nil (put_by q m.op m.answer))

no_room_there : (least : ℕ) (r : QueueId) (e : PlainEnds) (b : ℕ) (x : PlainSide) (before : List Entry)
    → slice_get e.sides b ≡ Some x → x.puts ≡ true → x.end.items ≡ puts x.queue before → least ≤ x.end.room + x.end.known → AllByRecursion (HasNoRoomAt r) e.sides
    → is_queue x.queue r ≡ true → least ≤ length (puts x.queue before)
no_room_there least r e b x before at way items knows all same =
    le_trans knows (subst (λ is. x.end.room + x.end.known ≤ length is) items (all_at (HasNoRoomAt r) e.sides b x at all (queue_turned x.queue r same) way))

refused_here : (least : ℕ) (o : OpShown) (a : AnswerShown) (e : PlainEnds) (b : ℕ) (x : PlainSide) (before : List Entry)
    → slice_get e.sides b ≡ Some x → x.puts ≡ true → x.end.items ≡ puts x.queue before → least ≤ x.end.room + x.end.known → CauseOf e o a → HadNoRoom x.queue least before o a
refused_here least (op.Push queue.Inbox i) (answer.Full j) e b x before at way items knows cause = no_room_there least queue.Inbox e b x before at way items knows cause
refused_here least (op.Push r i) (answer.Full j) e b x before at way items knows cause = no_room_there least r e b x before at way items knows cause
refused_here least _ _ e b x before at way items knows cause = tt

-- the pushes of turns to a lane: one was refused only after as many puts as its room and the gets that were known, or less
pub pushes : (room least : ℕ) (more : List Entry) (e : PlainEnds) (b : ℕ) (x : PlainSide) (before : List Entry)
    → slice_get e.sides b ≡ Some x → x.puts ≡ true → x.end.items ≡ puts x.queue before → least ≤ x.end.room + x.end.known → HaveCauses room e more
    → AllAfter (λ bs m. HadNoRoom x.queue least bs m.op m.answer) before more
pushes room least [] e b x before at way items knows causes = tt
pushes room least (m ∷ more) e b x before at way items knows causes = (
  refused_here least m.op m.answer e b x before at way items knows causes.0,
  pushes room least more (ends_after room m.op m.answer e) b (side_after e.sides m.op m.answer x) (before ++ m ∷ [])
      (slice_get-map (side_after e.sides m.op m.answer) e.sides b ∙ ap (option_map (side_after e.sides m.op m.answer)) at) way
      (ap (λ p. x.end.items ++ moved_by p x.queue m.op m.answer) way ∙ ap (λ is. is ++ put_by x.queue m.op m.answer) items ∙ sym (puts_push x.queue before m))
      knows causes.1,
)

-- what holds of each entry with those before it, in two parts of a list
pub after_append : (F : List Entry → Entry → Type 0) (before es more : List Entry) → AllAfter F before es → AllAfter F (before ++ es) more → AllAfter F before (es ++ more)
after_append F before [] more all rest = subst (λ bs. AllAfter F bs more) (append-nil before) rest
after_append F before (e ∷ es) more all rest =
    (all.0, after_append F (before ++ e ∷ []) es more all.1 (subst (λ bs. AllAfter F bs more) (sym (append_assoc before (e ∷ []) es)) rest))

-- the pushes that an end says of were refused so
abbrev Refused : List Entry → PlainSide → Type 0
Refused es x = AllAfter (λ before e. HadNoRoom x.queue x.end.room before e.op e.answer) [] es

full_on : (nodes : List PlainNodeQueues) (time count : ℕ) (s t : PlainPost) (b : ℕ) (x : PlainSide) → AreTurns nodes time count s t → slice_get s.ends.sides b ≡ Some x → x.puts ≡ true → IsSideTraced s.entries x → Refused s.entries x → Refused t.entries x
full_on nodes time count s t b x f at way traced past =
    subst (λ es. Refused es x) (sym f.entries)
    (after_append (λ before e. HadNoRoom x.queue x.end.room before e.op e.answer) [] s.entries f.more past
    (pushes (room_for nodes s.ends.home) x.end.room f.more s.ends b x s.entries at way (traced ∙ ap (λ p. moved p x.queue s.entries) way) (omega arith) f.causes))

pub turns_full : (nodes : List PlainNodeQueues) (time count : ℕ) (opened : List ℕ) (s t : PlainPost) → AreTurns nodes time count s t → AreTraced opened s.entries s.ends
    → AllByRecursion (WasCrammed s.entries) s.ends.sides → AllByRecursion (WasCrammed t.entries) t.ends.sides
turns_full nodes time count opened s t f traced all = all_from (WasCrammed t.entries) t.ends.sides each where
  same : map still_side t.ends.sides ≡ map still_side s.ends.sides
  same = ap (λ (e : PlainEnds). e.sides) (turns_still nodes time count s t f)

  each : (k : ℕ) (y : PlainSide) → slice_get t.ends.sides k ≡ Some y → WasCrammed t.entries y
  each k y at putting =
      let there : slice_get (map still_side s.ends.sides) k ≡ Some (still_side y) = ap (λ zs. slice_get zs k) (sym same) ∙ slice_get-map still_side t.ends.sides k ∙ ap (option_map still_side) at in
      let (x, here, is) = before_at still_side s.ends.sides k (still_side y) there in
      let way : x.puts ≡ true = ap (λ (z : PlainSide). z.puts) is ∙ putting in
      subst (Refused t.entries) is
      (full_on nodes time count s t k x f here way (all_at (IsSideTraced s.entries) s.ends.sides k x here traced.sides) (all_at (WasCrammed s.entries) s.ends.sides k x here all way))
