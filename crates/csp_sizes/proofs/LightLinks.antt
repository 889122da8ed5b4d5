-- A link's turn keeps it light.
use Rattle.std.proofs.Common.{ℕ, suc, ◌+◌, ◌/◌, ◌%◌, ◌≤◌, Bool, true, false, cond, List, [], ◌∷◌, length, take, drop, Option, None, Some, arith}
use Rattle.std.proofs.lemmas.List.Elements.{All-append, All-cons, All-drop, All-head, All-map, All-nil, All-replicate, All-tail, All-take}
use Rattle.std.proofs.lemmas.List.{length-set}
use Rattle.std.specs.Int.Bits.{bit_xor}
use Rattle.std.specs.List.{All, enumerate_from, find}
use Rattle.std.specs.Prelude.{◌^◌, IfSome, if◌then◌else◌, nat_le, replicate, slice_index}
use Rattle.csp_link.specs.Copies.{copies_of, damaged, flipped, held_copies, held_until}
use Rattle.csp_link.specs.Fates.{fate_at}
use Rattle.csp_link.specs.Holding.{first_due}
use Rattle.csp_link.specs.PlainLink.{PlainDirection, PlainLink, direction, in_turn, opening, with_direction}
use Rattle.csp_link.specs.Turns.{asked, asks, first_rule, frame_in, kept, taken, tells, turn_at, turn_in, turn_of}
use Rattle.csp_link.specs.declared.doing.Doing.TheVariants as doing
use Rattle.csp_link.specs.declared.doing.Doing.{Doing}
use Rattle.csp_link.specs.declared.fates.Fate.{Fate}
use Rattle.csp_link.specs.declared.fault.Fault.{Fault}
use Rattle.csp_link.specs.declared.held.Held.{Held}
use Rattle.csp_link.specs.declared.held.TheConstants.{MOST_HELD}
use Rattle.csp_link.specs.declared.way.Way.TheVariants.{Forth, Back}
use Rattle.csp_link.specs.declared.way.Way.{Way}
use Rattle.csp_log.specs.Weights.{item_bytes}
use Rattle.csp_log.specs.declared.frame.Frame.{Frame}
use Rattle.csp_log.specs.declared.places.LinkKind.{LinkKind}
use Rattle.csp_log.specs.declared.shown.AnswerShown.TheVariants as answer
use Rattle.csp_log.specs.declared.shown.AnswerShown.{AnswerShown}
use Rattle.csp_log.specs.declared.shown.ItemShown.TheVariants as item
use Rattle.csp_log.specs.declared.shown.ItemShown.{ItemShown}
use Rattle.csp_sizes.proofs.LightAnswers.{any_came}
use Rattle.csp_sizes.specs.Light.{IsLightAnswer, IsLightDirection, IsLightFrame, IsLightLink, IsLightOp}
use Rattle.csp_stack.specs.Readings.{item_in}

abbrev IsLightHeld : Held → Type 0
IsLightHeld h = IsLightFrame h.frame

-- the frame that is due is one of those held
due_from : (now n : ℕ) (held : List Held) → All IsLightHeld held → IfSome (find (λ p. nat_le p.1.due now) (enumerate_from n held)) (λ p. IsLightFrame p.1.frame)
due_from now n [] all = tt
due_from now n (h ∷ held) all = go (nat_le h.due now) (due_from now (n + 1) held (All-tail IsLightHeld h held all))
  where
    go : (c : Bool) → IfSome (find (λ p. nat_le p.1.due now) (enumerate_from (n + 1) held)) (λ p. IsLightFrame p.1.frame)
        → IfSome (cond c (Some (n, h)) (find (λ p. nat_le p.1.due now) (enumerate_from (n + 1) held))) (λ p. IsLightFrame p.1.frame)
    go true rest = All-head IsLightHeld h held all
    go false rest = rest

direction_light : (l : PlainLink) (w : Way) → IsLightLink l → IsLightDirection (direction l w)
direction_light l Forth h = h.forth
direction_light l Back h = h.back

with_light : (l : PlainLink) (w : Way) (d : PlainDirection) (way : Way) (x : Doing) → IsLightDirection d → IsLightLink l → IsLightLink (record (with_direction l w d) { way = way; doing = x })
with_light l Forth d way x one h = record { forth = one; back = h.back }
with_light l Back d way x one h = record { forth = h.forth; back = one }

asks_by : (w : Way) (now : ℕ) (due : Option (ℕ × Held)) (few : Bool) (d : PlainDirection) → IfSome due (λ p. IsLightFrame p.1.frame) → IsLightOp (turn_of w now due d (first_rule due few)).asks
asks_by w now (Some p) few d h = h
asks_by w now None true d h = tt
asks_by w now None false d h = tt

pub asks_light : (l : PlainLink) (time : ℕ) → IsLightLink l → IsLightOp (asks l time)
asks_light l time h = let d = in_turn l in asks_by l.way time (first_due time d.held) (nat_le (length d.held) MOST_HELD) d (due_from time 0 d.held (direction_light l l.way h))

until_light : (w : Way) (now : ℕ) (due : Option (ℕ × Held)) (few : Bool) (d : PlainDirection) → IsLightDirection d → IsLightDirection (turn_of w now due d (first_rule due few)).until
until_light w now (Some p) few d h = All-append IsLightHeld (take p.0 d.held) (drop (suc p.0) d.held) (All-take IsLightHeld p.0 d.held h) (All-drop IsLightHeld (suc p.0) d.held h)
until_light w now None true d h = h
until_light w now None false d h = h

asked_light : (l : PlainLink) (time : ℕ) → IsLightLink l → IsLightLink (asked l time)
asked_light l time h =
    let d = in_turn l in
    with_light l l.way (turn_in l.way time d).until (asked l time).way (asked l time).doing (until_light l.way time (first_due time d.held) (nat_le (length d.held) MOST_HELD) d (direction_light l l.way h)) h

-- ---- what each answer makes of it

kept_light : (place due : ℕ) (i : ItemShown) (d : PlainDirection) → item_bytes i ≤ 531 → IsLightDirection d → IsLightDirection (kept place due (frame_in i) d)
kept_light place due (item.Frame f) d light h =
    All-append IsLightHeld (take place d.held) (held_until due f ∷ drop place d.held) (All-take IsLightHeld place d.held h)
    (All-cons IsLightHeld (held_until due f) (drop place d.held) light (All-drop IsLightHeld place d.held h))
kept_light place due (item.Packet mark b) d light h = h
kept_light place due (item.Note n) d light h = h

flipped_light : (bit : ℕ) (f : Frame) → IsLightFrame f → IsLightFrame (flipped bit f)
flipped_light bit f h = let long = length-set f.bytes.items (bit / 8) (bit_xor (slice_index f.bytes.items (bit / 8)) (128 / 2 ^ (bit % 8))) in omega (arith, long, h)

damaged_light : (o : Option ℕ) (f : Frame) → IsLightFrame f → IsLightFrame (damaged o f)
damaged_light None f h = h
damaged_light (Some bit) f h = flipped_light bit f h

copies_light : (fate : Fate) (f : Frame) → IsLightFrame f → All IsLightFrame (copies_of fate f)
copies_light fate f h = go fate.lost
  where
    go : (b : Bool) → All IsLightFrame (if b then [] else replicate (fate.repeats + 1) (damaged fate.flip f))
    go true = All-nil IsLightFrame
    go false = All-replicate IsLightFrame (fate.repeats + 1) (damaged fate.flip f) (damaged_light fate.flip f h)

taken_light : (now : ℕ) (i : ItemShown) (d : PlainDirection) → item_bytes i ≤ 531 → IsLightDirection d → IsLightDirection (taken now (frame_in i) d)
taken_light now (item.Frame f) d light h =
    let fate = fate_at d.fates (d.popped + 1) in
    All-append IsLightHeld d.held (held_copies fate now f) h (All-map IsLightHeld (held_until (now + fate.delay)) (copies_of fate f) (copies_light fate f light))
taken_light now (item.Packet mark b) d light h = h
taken_light now (item.Note n) d light h = h

told_light : (w : Way) (now : ℕ) (x : Doing) (a : AnswerShown) (d : PlainDirection) → IfSome (item_in a) (λ i. item_bytes i ≤ 531) → IsLightDirection d → IsLightDirection ((turn_of w now None d x).told a)
told_light w now (doing.Push place due) (answer.Full i) d items h = kept_light place due i d items h
told_light w now doing.Pop (answer.Popped i) d items h = taken_light now i d items h
told_light w now x a d items h = h

tells_light : (l : PlainLink) (time : ℕ) (a : AnswerShown) → IfSome (item_in a) (λ i. item_bytes i ≤ 531) → IsLightLink l → IsLightLink (tells l time a)
tells_light l time a items h = with_light l l.way ((turn_at l time).told a) (tells l time a).way doing.Rest (told_light l.way time l.doing a (in_turn l) items (direction_light l l.way h)) h

pub link_light : (l : PlainLink) (time : ℕ) (a : AnswerShown) → IsLightLink l → IsLightAnswer (asks l time) a → IsLightLink (tells (asked l time) time a)
link_light l time a h light = tells_light (asked l time) time a (any_came (asks l time) a light) (asked_light l time h)

pub link_opened : (k : LinkKind) (plan : List Fault) → IsLightLink (opening k plan)
link_opened k plan = record { forth = All-nil IsLightHeld; back = All-nil IsLightHeld }
