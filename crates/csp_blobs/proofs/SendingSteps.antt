-- What a step has still to push, and then the steps after it.
use Rattle.std.proofs.Common.{◌≡◌, ℕ, zero, suc, ◌+◌, ◌-◌, ◌<◌, ◌≤◌, Bool, true, false, Option, Some, None, List, [], ◌∷◌, ◌++◌, drop, slice_get, refl, sym, ap, ◌∙◌, arith}
use Rattle.std.specs.Prelude.{IfSome}
use Rattle.std.specs.List.{AllByRecursion, flat_map}
use Rattle.std.proofs.Math.Seq.{drop-nil}
use Rattle.csp_app.specs.Making.{Batch, batch_at, batch_of, filled}
use Rattle.csp_app.specs.PlainStep.{PlainStep}
use Rattle.csp_app.specs.PlainStep as step
use Rattle.csp_buffer.specs.Content.{cleared}
use Rattle.csp_log.specs.declared.note.Note.{Note}
use Rattle.csp_log.specs.declared.note.Note.TheVariants as note
use Rattle.csp_log.specs.declared.shown.ItemShown.{ItemShown}
use Rattle.csp_log.specs.declared.shown.ItemShown.TheVariants as item
use Rattle.csp_scene.specs.Ranges.{IsStep}
use Rattle.csp_sfp.proofs.Public.{has_pieces}
use Rattle.csp_consistent.proofs.Public.{each_at}
use Rattle.csp_blobs.specs.Sending.{all_packets, packets_from, pushed_by, unnumbered}

-- ---- what is ahead

-- a note that was not pushed
abbrev pub note_ahead : (asked : Bool) → Note → List ItemShown
note_ahead true n = []
note_ahead false n = item.Note n ∷ []

-- the packets after so many
abbrev pub packets_ahead : (sent : ℕ) → Batch → List ItemShown
packets_ahead sent p = packets_from p sent (p.count - sent)

-- what a step has still to push, where its note was pushed or not, and so many of its packets were
abbrev pub ahead_of : (asked : Bool) (sent : ℕ) → PlainStep → List ItemShown
ahead_of asked sent step.Take = []
ahead_of asked sent step.Give = []
ahead_of asked sent (step.Bind port need) = note_ahead asked (note.Bind port need)
ahead_of asked sent (step.Connect slot dest port prio flags from) = note_ahead asked (note.Connect slot dest port prio flags from)
ahead_of asked sent (step.Send slot bytes) = packets_ahead sent (batch_of (step.Send slot bytes))
ahead_of asked sent (step.Burst slot count len) = packets_ahead sent (batch_of (step.Burst slot count len))
ahead_of asked sent (step.Blob slot len size) = packets_ahead sent (batch_of (step.Blob slot len size))
ahead_of asked sent (step.Raw header bytes) = packets_ahead sent (batch_of (step.Raw header bytes))
ahead_of asked sent (step.Recv _ _ _) = []
ahead_of asked sent (step.Collect _ _ _) = []
ahead_of asked sent (step.Close slot) = note_ahead asked (note.Close slot)
ahead_of asked sent (step.Wait _) = []

abbrev pub ahead_at : (asked : Bool) (sent : ℕ) → Option PlainStep → List ItemShown
ahead_at asked sent None = []
ahead_at asked sent (Some x) = ahead_of asked sent x

-- what a script has still to push from its step of this number on
abbrev pub ahead : List PlainStep → (asked : Bool) (sent done : ℕ) → List ItemShown
ahead steps asked sent done = ahead_at asked sent (slice_get steps done) ++ flat_map pushed_by (drop (done + 1) steps)

-- ---- at its beginning a step has all to push

all_ahead : (p : Batch) → packets_ahead 0 p ≡ all_packets p
all_ahead p = ap (packets_from p 0) none_gone
  where
    none_gone : p.count - 0 ≡ p.count
    none_gone = omega arith

whole_ahead : (x : PlainStep) → ahead_of false 0 x ≡ pushed_by x
whole_ahead (step.Send slot bytes) = all_ahead (batch_of (step.Send slot bytes))
whole_ahead (step.Burst slot count len) = all_ahead (batch_of (step.Burst slot count len))
whole_ahead (step.Blob slot len size) = all_ahead (batch_of (step.Blob slot len size))
whole_ahead (step.Raw header bytes) = all_ahead (batch_of (step.Raw header bytes))
whole_ahead _ = refl

-- one more than the next
pub next_more : (n : ℕ) → suc n + 1 ≡ suc (n + 1)
next_more n = omega arith

pub ahead_first : (steps : List PlainStep) (done : ℕ) → ahead steps false 0 done ≡ flat_map pushed_by (drop done steps)
ahead_first [] done = ap (flat_map pushed_by) (drop-nil (done + 1) ∙ sym (drop-nil done))
ahead_first (x ∷ xs) zero = ap (λ is. is ++ flat_map pushed_by xs) (whole_ahead x)
ahead_first (x ∷ xs) (suc done) =
    ap (λ n. ahead_at false 0 (slice_get xs done) ++ flat_map pushed_by (drop n (x ∷ xs))) (next_more done) ∙ ahead_first xs done

-- ---- the steps that send

abbrev pub sends_at : Option PlainStep → Bool
sends_at (Some (step.Send _ _)) = true
sends_at (Some (step.Burst _ _ _)) = true
sends_at (Some (step.Blob _ _ _)) = true
sends_at (Some (step.Raw _ _)) = true
sends_at _ = false

pub ahead_sends : (asked : Bool) (sent : ℕ) (found : Option PlainStep) → sends_at found ≡ true → ahead_at asked sent found ≡ packets_ahead sent (batch_at found)
ahead_sends asked sent (Some (step.Send slot bytes)) e = refl
ahead_sends asked sent (Some (step.Burst slot count len)) e = refl
ahead_sends asked sent (Some (step.Blob slot len size)) e = refl
ahead_sends asked sent (Some (step.Raw header bytes)) e = refl
ahead_sends asked sent _ e = absurd cc

-- one that sends has a packet to push
abbrev pub IsDue : Option PlainStep → ℕ → Type 0
IsDue found sent = sends_at found ≡ true → sent < (batch_at found).count

due_some : (found : Option PlainStep) → IfSome found IsStep → IsDue found 0
due_some (Some (step.Send slot bytes)) h e = omega arith
due_some (Some (step.Burst slot count len)) h e = omega (arith, h.0.1)
due_some (Some (step.Blob slot len size)) h e = has_pieces len size (omega (arith, h.0.1)) (omega (arith, h.0.3))
due_some (Some (step.Raw header bytes)) h e = omega arith
due_some _ h e = absurd cc

found_so : (steps : List PlainStep) (n : ℕ) (found : Option PlainStep) → AllByRecursion IsStep steps → slice_get steps n ≡ found → IfSome found IsStep
found_so steps n None all e = tt
found_so steps n (Some x) all e = each_at IsStep steps n x all e

pub due_first : (steps : List PlainStep) (n : ℕ) → AllByRecursion IsStep steps → IsDue (slice_get steps n) 0
due_first steps n all = due_some (slice_get steps n) (found_so steps n (slice_get steps n) all refl)

-- ---- a packet of those

-- an item is the packet of this number of the present step
abbrev pub IsMade : Option PlainStep → ℕ → ItemShown → Type 0
IsMade found sent i = (sends_at found ≡ true) × (unnumbered i ≡ item.Packet (batch_at found).mark (filled (batch_at found) sent (cleared 0)))

packets_next : (p : Batch) (sent : ℕ) → sent < p.count → packets_ahead sent p ≡ item.Packet p.mark (filled p sent (cleared 0)) ∷ packets_ahead (sent + 1) p
packets_next p sent h = ap (packets_from p sent) one_more
  where
    one_more : p.count - sent ≡ suc (p.count - (sent + 1))
    one_more = omega (arith, h)

packets_none : (p : Batch) (sent : ℕ) → p.count ≤ sent → packets_ahead sent p ≡ []
packets_none p sent h = ap (packets_from p sent) no_more
  where
    no_more : p.count - sent ≡ 0
    no_more = omega (arith, h)

-- it is the first of what is ahead
pub ahead_next : (asked : Bool) (sent : ℕ) (found : Option PlainStep) (i : ItemShown) → IsMade found sent i → IsDue found sent
    → ahead_at asked sent found ≡ unnumbered i ∷ ahead_at asked (sent + 1) found
ahead_next asked sent found i made due =
    ahead_sends asked sent found made.0 ∙ packets_next (batch_at found) sent (due made.0)
    ∙ λ k. sym made.1 k ∷ sym (ahead_sends asked (sent + 1) found made.0) k

pub ahead_none : (asked : Bool) (sent : ℕ) (found : Option PlainStep) → sends_at found ≡ true → (batch_at found).count ≤ sent → ahead_at asked sent found ≡ []
ahead_none asked sent found e h = ahead_sends asked sent found e ∙ packets_none (batch_at found) sent h
