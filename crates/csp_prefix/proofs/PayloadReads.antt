-- The payloads of a connection, read by entries and by items, are the same.
use Rattle.std.proofs.Common.{◌≡◌, ℕ, ◌+◌, ◌==◌, ◌&&◌, Bool, true, false, cond, Some, None, List, [], ◌∷◌, ◌++◌, flat_map, refl, sym, ap, ◌∙◌, append_assoc, append-nil}
use Rattle.std.specs.Prelude.{if◌then◌else◌, ⊤}
use Rattle.std.specs.List.{AllByRecursion}
use Rattle.csp_base.specs.declared.seat.Seat.{Seat}
use Rattle.csp_log.specs.Moving.{moved_by}
use Rattle.csp_log.specs.Noting.{noted_by, noted_in}
use Rattle.csp_log.specs.declared.entry.Entry.{Entry}
use Rattle.csp_log.specs.declared.event.Event.{Event}
use Rattle.csp_log.specs.declared.event.Event.TheVariants as event
use Rattle.csp_log.specs.declared.note.Note.{Note}
use Rattle.csp_log.specs.declared.note.Note.TheVariants as note
use Rattle.csp_log.specs.declared.places.QueueId.TheVariants as queue
use Rattle.csp_log.specs.declared.shown.ItemShown.{ItemShown}
use Rattle.csp_log.specs.declared.shown.ItemShown.TheVariants as item
use Rattle.csp_log.specs.declared.shown.OpShown.{OpShown}
use Rattle.csp_log.specs.declared.shown.OpShown.TheVariants as op
use Rattle.csp_log.specs.declared.shown.AnswerShown.{AnswerShown}
use Rattle.csp_log.specs.declared.shown.AnswerShown.TheVariants as answer
use Rattle.csp_record.specs.Payloads.{carried, is_on, told_on, took}
use Rattle.csp_record.specs.declared.payloads.Transfer.TheVariants as way
use Rattle.csp_record.proofs.Public.{Ends, ended, no_ends, on_are, payloads_after, payloads_are, told_after}
use Rattle.csp_prefix.specs.Delivered.{delivered, delivered_by}
use Rattle.csp_prefix.specs.Items.{ends_by, payload_by, payloads_from, payloads_in}
use Rattle.csp_prefix.specs.Prefix.{IsBeginning}
use Rattle.csp_consistent.specs.Reading.{got_by, gets, is_queue, put_by, puts}

-- ---- items

-- how many Closed answers there are for a slot after items
abbrev pub ends_in : ℕ → ℕ → List ItemShown → ℕ
ends_in slot ends [] = ends
ends_in slot ends (i ∷ is) = ends_in slot (ends_by slot ends i) is

pub payloads_append : (slot ordinal ends : ℕ) (xs ys : List ItemShown) → payloads_from slot ordinal ends (xs ++ ys) ≡ payloads_from slot ordinal ends xs ++ payloads_from slot ordinal (ends_in slot ends xs) ys
payloads_append slot ordinal ends [] ys = refl
payloads_append slot ordinal ends (x ∷ xs) ys =
    ap (λ ps. payload_by slot ordinal ends x ++ ps) (payloads_append slot ordinal (ends_by slot ends x) xs ys)
    ∙ sym (append_assoc (payload_by slot ordinal ends x) (payloads_from slot ordinal (ends_by slot ends x) xs) (payloads_from slot ordinal (ends_in slot (ends_by slot ends x) xs) ys))

-- of a beginning of items they are a beginning
pub payloads_begin : (slot ordinal : ℕ) (xs left ys : List ItemShown) → xs ++ left ≡ ys → IsBeginning (payloads_in slot ordinal xs) (payloads_in slot ordinal ys)
payloads_begin slot ordinal xs left ys e = record {
  rest = payloads_from slot ordinal (ends_in slot 0 xs) left;
  whole = sym (payloads_append slot ordinal 0 xs left) ∙ ap (payloads_in slot ordinal) e;
}

-- an item that is no packet has none, and one that is no Closed answer ends none
no_payload : (slot ordinal n : ℕ) (b : Bool) (i : ItemShown) → payload_by slot ordinal n i ≡ [] → [] ≡ payloads_from slot ordinal n (if b then i ∷ [] else [])
no_payload slot ordinal n true i e = ap (λ ps. ps ++ []) (sym e)
no_payload slot ordinal n false i e = refl

no_end : (slot n : ℕ) (b : Bool) (i : ItemShown) → ends_by slot n i ≡ n → n ≡ ends_in slot n (if b then i ∷ [] else [])
no_end slot n true i e = sym e
no_end slot n false i e = refl

-- a payload of this slot, where the slot has this ordinal now
in_either : (b : Bool) → cond {A = List (List ℕ)} b [] [] ≡ []
in_either true = refl
in_either false = refl

both_tests : (ordinal n : ℕ) (b : Bool) (payload : List ℕ) → (if n == ordinal then (if b then payload ∷ [] else []) else []) ≡ (if b && n == ordinal then payload ∷ [] else [])
both_tests ordinal n true payload = refl
both_tests ordinal n false payload = in_either (n == ordinal)

-- ---- by the entries of an application

abbrev pub IsNoTook : Event → Type 0
IsNoTook (event.Took slot told) = ⊥
IsNoTook _ = ⊤

-- the events tell once that a packet was taken on this slot
pub record IsTookOnce (mark : ℕ) (es : List Event) : Type 0 where
  pub ordinal : ℕ
  pub rest : List Event
  pub events : es ≡ event.Took mark ordinal ∷ rest
  pub once : AllByRecursion IsNoTook rest

-- so they do where a packet was popped
abbrev pub TellsTook : OpShown → AnswerShown → List Event → Type 0
TellsTook (op.Pop q) (answer.Popped (item.Packet mark b)) es = IsTookOnce mark es
TellsTook _ _ es = ⊤

none_on : (slot : ℕ) (payload : List ℕ) (es : List Event) → AllByRecursion IsNoTook es → flat_map (λ e. if is_on way.Took slot e then payload ∷ [] else []) es ≡ []
none_on slot payload [] all = refl
none_on slot payload (event.Took s told ∷ es) all = absurd all.0
none_on slot payload (_ ∷ es) all = none_on slot payload es all.1

took_one : (slot ordinal n mark : ℕ) (payload : List ℕ) (es : List Event) → IsTookOnce mark es
    → (if n == ordinal then told_on way.Took slot es (Some payload) else []) ≡ (if mark == slot && n == ordinal then payload ∷ [] else []) ++ []
took_one slot ordinal n mark payload es t =
    ap (λ xs. if n == ordinal then told_on way.Took slot xs (Some payload) else []) t.events
    ∙ ap (λ ps. if n == ordinal then (if mark == slot then payload ∷ [] else []) ++ ps else []) (none_on slot payload t.rest t.once)
    ∙ ap (λ ps. if n == ordinal then ps else []) (append-nil (if mark == slot then payload ∷ [] else []))
    ∙ both_tests ordinal n (mark == slot) payload ∙ sym (append-nil _)

-- what a turn tells to be taken is what it got from its `Down`
took_by : (seat : Seat) (ordinal n : ℕ) (o : OpShown) (a : AnswerShown) (es : List Event) → TellsTook o a es
    → (if n == ordinal then told_on way.Took seat.slot es (carried way.Took seat.app (moved_by o a)) else []) ≡ payloads_from seat.slot ordinal n (got_by (queue.Down seat.app) o a)
took_by seat ordinal n (op.Pop (queue.Down k)) (answer.Popped (item.Packet mark b)) es t =
    by (k == seat.app)
  where
    by : (c : Bool) → (if n == ordinal then told_on way.Took seat.slot es (if c then Some b.payload else None) else []) ≡ payloads_from seat.slot ordinal n (if c then item.Packet mark b ∷ [] else [])
    by true = took_one seat.slot ordinal n mark b.payload es t
    by false = in_either (n == ordinal)
took_by seat ordinal n (op.Pop queue.Inbox) (answer.Popped (item.Packet mark b)) es t = in_either (n == ordinal)
took_by seat ordinal n (op.Pop (queue.Up k)) (answer.Popped (item.Packet mark b)) es t = in_either (n == ordinal)
took_by seat ordinal n (op.Pop (queue.Out k)) (answer.Popped (item.Packet mark b)) es t = in_either (n == ordinal)
took_by seat ordinal n (op.Pop (queue.Tx k)) (answer.Popped (item.Packet mark b)) es t = in_either (n == ordinal)
took_by seat ordinal n (op.Pop (queue.Rx k)) (answer.Popped (item.Packet mark b)) es t = in_either (n == ordinal)
took_by seat ordinal n (op.Pop q) (answer.Popped (item.Frame f)) es t = in_either (n == ordinal) ∙ no_payload seat.slot ordinal n (is_queue (queue.Down seat.app) q) (item.Frame f) refl
took_by seat ordinal n (op.Pop q) (answer.Popped (item.Note m)) es t = in_either (n == ordinal) ∙ no_payload seat.slot ordinal n (is_queue (queue.Down seat.app) q) (item.Note m) refl
took_by seat ordinal n (op.Push q (item.Packet mark b)) answer.Pushed es t = in_either (n == ordinal)
took_by seat ordinal n (op.Push q (item.Frame f)) answer.Pushed es t = in_either (n == ordinal)
took_by seat ordinal n (op.Push q (item.Note m)) answer.Pushed es t = in_either (n == ordinal)
took_by seat ordinal n _ _ es t = in_either (n == ordinal)

-- and it ends the slots that it got Closed answers for
closed_end : (slot n freed : ℕ) (own : Bool) (ends : Ends) → ends slot ≡ n → (if own && freed == slot then ends slot + 1 else ends slot) ≡ ends_in slot n (if own then item.Note (note.Closed freed) ∷ [] else [])
closed_end slot n freed true ends e = ap (λ x. if freed == slot then x + 1 else x) e
closed_end slot n freed false ends e = e

heard_end : (seat : Seat) (n : ℕ) (ends : Ends) (k : ℕ) (m : Note) → ends seat.slot ≡ n
    → ended way.Took seat.app (noted_by (op.Pop (queue.Down k)) (answer.Popped (item.Note m))) ends seat.slot ≡ ends_in seat.slot n (if k == seat.app then item.Note m ∷ [] else [])
heard_end seat n ends k (note.Closed freed) e = closed_end seat.slot n freed (k == seat.app) ends e
heard_end seat n ends k m e = e ∙ no_end seat.slot n (k == seat.app) (item.Note m) refl

took_end : (seat : Seat) (n : ℕ) (ends : Ends) (o : OpShown) (a : AnswerShown) → ends seat.slot ≡ n
    → ended way.Took seat.app (noted_by o a) ends seat.slot ≡ ends_in seat.slot n (got_by (queue.Down seat.app) o a)
took_end seat n ends (op.Pop (queue.Down k)) (answer.Popped (item.Note m)) e = heard_end seat n ends k m e
took_end seat n ends (op.Pop queue.Inbox) (answer.Popped (item.Note m)) e = e
took_end seat n ends (op.Pop (queue.Up k)) (answer.Popped (item.Note m)) e = e
took_end seat n ends (op.Pop (queue.Out k)) (answer.Popped (item.Note m)) e = e
took_end seat n ends (op.Pop (queue.Tx k)) (answer.Popped (item.Note m)) e = e
took_end seat n ends (op.Pop (queue.Rx k)) (answer.Popped (item.Note m)) e = e
took_end seat n ends (op.Pop q) (answer.Popped (item.Packet mark b)) e = e ∙ no_end seat.slot n (is_queue (queue.Down seat.app) q) (item.Packet mark b) refl
took_end seat n ends (op.Pop q) (answer.Popped (item.Frame f)) e = e ∙ no_end seat.slot n (is_queue (queue.Down seat.app) q) (item.Frame f) refl
took_end seat n ends (op.Push q (item.Note m)) answer.Pushed e = e
took_end seat n ends (op.Push q (item.Packet mark b)) answer.Pushed e = e
took_end seat n ends (op.Push q (item.Frame f)) answer.Pushed e = e
took_end seat n ends _ _ e = e

took_after : (seat : Seat) (ordinal n : ℕ) (ends : Ends) (es : List Entry) → AllByRecursion (λ e. TellsTook e.op e.answer e.events.items) es → ends seat.slot ≡ n
    → payloads_after way.Took seat ordinal ends es ≡ payloads_from seat.slot ordinal n (gets (queue.Down seat.app) es)
took_after seat ordinal n ends [] all e = refl
took_after seat ordinal n ends (x ∷ es) all e =
    let m : ℕ = ends_in seat.slot n (got_by (queue.Down seat.app) x.op x.answer) in
    let rest : List (List ℕ) = payloads_after way.Took seat ordinal (ended way.Took seat.app (noted_in x) ends) es in
    ap (λ k. (if k == ordinal then told_on way.Took seat.slot x.events.items (carried way.Took seat.app (moved_by x.op x.answer)) else []) ++ rest) e
    ∙ ap (λ ps. ps ++ rest) (took_by seat ordinal n x.op x.answer x.events.items all.0)
    ∙ ap (λ ps. payloads_from seat.slot ordinal n (got_by (queue.Down seat.app) x.op x.answer) ++ ps)
    (took_after seat ordinal m (ended way.Took seat.app (noted_in x) ends) es all.1 (took_end seat n ends x.op x.answer e))
    ∙ sym (payloads_append seat.slot ordinal n (got_by (queue.Down seat.app) x.op x.answer) (gets (queue.Down seat.app) es))

-- what an application took are the payloads of what it got
pub took_is : (seat : Seat) (ordinal : ℕ) (es : List Entry) → AllByRecursion (λ e. TellsTook e.op e.answer e.events.items) es → took seat ordinal es ≡ payloads_in seat.slot ordinal (gets (queue.Down seat.app) es)
took_is seat ordinal es all = payloads_are way.Took seat ordinal es ∙ took_after seat ordinal 0 no_ends es all refl

-- ---- by the entries of a router

one_delivered : (seat : Seat) (ordinal n k mark : ℕ) (payload : List ℕ) (i : ItemShown) → payload_by seat.slot ordinal n i ≡ (if mark == seat.slot && n == ordinal then payload ∷ [] else [])
    → (if n == ordinal then (if k == seat.app && mark == seat.slot then payload ∷ [] else []) else []) ≡ payloads_from seat.slot ordinal n (if k == seat.app then i ∷ [] else [])
one_delivered seat ordinal n k mark payload i is =
    by (k == seat.app)
  where
    by : (c : Bool) → (if n == ordinal then (if c && mark == seat.slot then payload ∷ [] else []) else []) ≡ payloads_from seat.slot ordinal n (if c then i ∷ [] else [])
    by true = both_tests ordinal n (mark == seat.slot) payload ∙ sym is ∙ sym (append-nil (payload_by seat.slot ordinal n i))
    by false = in_either (n == ordinal)

delivered_one : (seat : Seat) (ordinal n : ℕ) (o : OpShown) (a : AnswerShown) → (if n == ordinal then delivered_by seat o a else []) ≡ payloads_from seat.slot ordinal n (put_by (queue.Down seat.app) o a)
delivered_one seat ordinal n (op.Push (queue.Down k) (item.Packet mark b)) answer.Pushed = one_delivered seat ordinal n k mark b.payload (item.Packet mark b) refl
delivered_one seat ordinal n (op.Push queue.Inbox (item.Packet mark b)) answer.Pushed = in_either (n == ordinal)
delivered_one seat ordinal n (op.Push (queue.Up k) (item.Packet mark b)) answer.Pushed = in_either (n == ordinal)
delivered_one seat ordinal n (op.Push (queue.Out k) (item.Packet mark b)) answer.Pushed = in_either (n == ordinal)
delivered_one seat ordinal n (op.Push (queue.Tx k) (item.Packet mark b)) answer.Pushed = in_either (n == ordinal)
delivered_one seat ordinal n (op.Push (queue.Rx k) (item.Packet mark b)) answer.Pushed = in_either (n == ordinal)
delivered_one seat ordinal n (op.Push (queue.Down k) (item.Frame f)) answer.Pushed = in_either (n == ordinal) ∙ no_payload seat.slot ordinal n (k == seat.app) (item.Frame f) refl
delivered_one seat ordinal n (op.Push queue.Inbox (item.Frame f)) answer.Pushed = in_either (n == ordinal)
delivered_one seat ordinal n (op.Push (queue.Up k) (item.Frame f)) answer.Pushed = in_either (n == ordinal)
delivered_one seat ordinal n (op.Push (queue.Out k) (item.Frame f)) answer.Pushed = in_either (n == ordinal)
delivered_one seat ordinal n (op.Push (queue.Tx k) (item.Frame f)) answer.Pushed = in_either (n == ordinal)
delivered_one seat ordinal n (op.Push (queue.Rx k) (item.Frame f)) answer.Pushed = in_either (n == ordinal)
delivered_one seat ordinal n (op.Push (queue.Down k) (item.Note m)) answer.Pushed = in_either (n == ordinal) ∙ no_payload seat.slot ordinal n (k == seat.app) (item.Note m) refl
delivered_one seat ordinal n (op.Push queue.Inbox (item.Note m)) answer.Pushed = in_either (n == ordinal)
delivered_one seat ordinal n (op.Push (queue.Up k) (item.Note m)) answer.Pushed = in_either (n == ordinal)
delivered_one seat ordinal n (op.Push (queue.Out k) (item.Note m)) answer.Pushed = in_either (n == ordinal)
delivered_one seat ordinal n (op.Push (queue.Tx k) (item.Note m)) answer.Pushed = in_either (n == ordinal)
delivered_one seat ordinal n (op.Push (queue.Rx k) (item.Note m)) answer.Pushed = in_either (n == ordinal)
delivered_one seat ordinal n _ _ = in_either (n == ordinal)

told_end : (seat : Seat) (n : ℕ) (ends : Ends) (k : ℕ) (m : Note) → ends seat.slot ≡ n
    → ended way.Sent seat.app (noted_by (op.Push (queue.Down k) (item.Note m)) answer.Pushed) ends seat.slot ≡ ends_in seat.slot n (if k == seat.app then item.Note m ∷ [] else [])
told_end seat n ends k (note.Closed freed) e = closed_end seat.slot n freed (k == seat.app) ends e
told_end seat n ends k m e = e ∙ no_end seat.slot n (k == seat.app) (item.Note m) refl

delivered_end : (seat : Seat) (n : ℕ) (ends : Ends) (o : OpShown) (a : AnswerShown) → ends seat.slot ≡ n
    → ended way.Sent seat.app (noted_by o a) ends seat.slot ≡ ends_in seat.slot n (put_by (queue.Down seat.app) o a)
delivered_end seat n ends (op.Push (queue.Down k) (item.Note m)) answer.Pushed e = told_end seat n ends k m e
delivered_end seat n ends (op.Push queue.Inbox (item.Note m)) answer.Pushed e = e
delivered_end seat n ends (op.Push (queue.Up k) (item.Note m)) answer.Pushed e = e
delivered_end seat n ends (op.Push (queue.Out k) (item.Note m)) answer.Pushed e = e
delivered_end seat n ends (op.Push (queue.Tx k) (item.Note m)) answer.Pushed e = e
delivered_end seat n ends (op.Push (queue.Rx k) (item.Note m)) answer.Pushed e = e
delivered_end seat n ends (op.Push q (item.Packet mark b)) answer.Pushed e = e ∙ no_end seat.slot n (is_queue (queue.Down seat.app) q) (item.Packet mark b) refl
delivered_end seat n ends (op.Push q (item.Frame f)) answer.Pushed e = e ∙ no_end seat.slot n (is_queue (queue.Down seat.app) q) (item.Frame f) refl
delivered_end seat n ends (op.Pop q) (answer.Popped (item.Note m)) e = e
delivered_end seat n ends (op.Pop q) (answer.Popped (item.Packet mark b)) e = e
delivered_end seat n ends (op.Pop q) (answer.Popped (item.Frame f)) e = e
delivered_end seat n ends _ _ e = e

-- read one entry after the other
abbrev pub delivered_after : Seat → (ordinal : ℕ) → Ends → List Entry → List (List ℕ)
delivered_after seat ordinal = told_after way.Sent seat.app (λ ends e. if ends seat.slot == ordinal then delivered_by seat e.op e.answer else [])

pub delivered_are : (seat : Seat) (ordinal : ℕ) (es : List Entry) → delivered seat ordinal es ≡ delivered_after seat ordinal no_ends es
delivered_are seat ordinal es = on_are way.Sent seat ordinal (λ e. delivered_by seat e.op e.answer) es

delivered_from : (seat : Seat) (ordinal n : ℕ) (ends : Ends) (es : List Entry) → ends seat.slot ≡ n → delivered_after seat ordinal ends es ≡ payloads_from seat.slot ordinal n (puts (queue.Down seat.app) es)
delivered_from seat ordinal n ends [] e = refl
delivered_from seat ordinal n ends (x ∷ es) e =
    let m : ℕ = ends_in seat.slot n (put_by (queue.Down seat.app) x.op x.answer) in
    let rest : List (List ℕ) = delivered_after seat ordinal (ended way.Sent seat.app (noted_in x) ends) es in
    ap (λ k. (if k == ordinal then delivered_by seat x.op x.answer else []) ++ rest) e
    ∙ ap (λ ps. ps ++ rest) (delivered_one seat ordinal n x.op x.answer)
    ∙ ap (λ ps. payloads_from seat.slot ordinal n (put_by (queue.Down seat.app) x.op x.answer) ++ ps)
    (delivered_from seat ordinal m (ended way.Sent seat.app (noted_in x) ends) es (delivered_end seat n ends x.op x.answer e))
    ∙ sym (payloads_append seat.slot ordinal n (put_by (queue.Down seat.app) x.op x.answer) (puts (queue.Down seat.app) es))

-- what a router delivered are the payloads of what it put
pub delivered_is : (seat : Seat) (ordinal : ℕ) (es : List Entry) → delivered seat ordinal es ≡ payloads_in seat.slot ordinal (puts (queue.Down seat.app) es)
delivered_is seat ordinal es = delivered_are seat ordinal es ∙ delivered_from seat ordinal 0 no_ends es refl
