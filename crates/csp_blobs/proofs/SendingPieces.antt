-- On a slot on which no step sends packets as it says, what the steps push are the pieces of their blobs.
use Rattle.std.proofs.Common.{◌≡◌, ℕ, zero, suc, ◌+◌, ◌*◌, ◌<◌, ◌≤◌, ◌==◌, ◌||◌, Bool, true, false, List, [], ◌∷◌, ◌++◌, drop, map, refl, sym, ap, ◌∙◌, subst, append-nil, arith}
use Rattle.std.specs.Prelude.{if◌then◌else◌}
use Rattle.std.specs.List.{AllByRecursion, flat_map, list_any, range_with_len}
use Rattle.std.proofs.lemmas.Bool.{ne_eqb}
use Rattle.std.proofs.lemmas.Grind.{flat_map-append}
use Rattle.std.proofs.lemmas.List.Elements.{All-from_recursion}
use Rattle.csp_app.proofs.Public.{burst_length}
use Rattle.csp_app.specs.Making.{Batch, batch_of, blob_bytes}
use Rattle.csp_app.specs.PlainStep.{PlainStep}
use Rattle.csp_app.specs.PlainStep as step
use Rattle.csp_app.specs.declared.packets.TheConstants.{FIRST_BYTE}
use Rattle.csp_log.specs.declared.places.QueueId.TheVariants as queue
use Rattle.csp_base.specs.declared.limits.TheConstants.{SLOTS}
use Rattle.csp_log.specs.declared.places.TheConstants.{UNMARKED}
use Rattle.csp_log.specs.declared.shown.ItemShown.{ItemShown}
use Rattle.csp_log.specs.declared.shown.ItemShown.TheVariants as item
use Rattle.csp_scene.proofs.Public.{AllByRecursion-append}
use Rattle.csp_scene.specs.Ranges.{IsStep}
use Rattle.csp_scene.specs.Sharing.{sends_packets}
use Rattle.csp_sfp.specs.Collecting.{Cut, all_pieces}
use Rattle.csp_sfp.specs.Pieces.{CanBeCut, piece_at, piece_count, pieces_of}
use Rattle.csp_sfp.specs.declared.trailer.TheConstants.{MAX_BLOB}
use Rattle.csp_consistent.specs.Reading.{puts}
use Rattle.csp_prefix.specs.Prefix.{IsBeginning}
use Rattle.csp_blobs.specs.Sending.{IsAsked, PushSteps, SendPieces, cut_on, cuts_on, packets_from, payload_on, pushed_by, pushed_on, unnumbered}

-- ---- items and payloads

on_unnumbered : (slot : ℕ) (i : ItemShown) → payload_on slot (unnumbered i) ≡ payload_on slot i
on_unnumbered slot (item.Packet mark b) = refl
on_unnumbered slot (item.Frame f) = refl
on_unnumbered slot (item.Note n) = refl

pushed_unnumbered : (slot : ℕ) (is : List ItemShown) → pushed_on slot (map unnumbered is) ≡ pushed_on slot is
pushed_unnumbered slot [] = refl
pushed_unnumbered slot (i ∷ is) = λ k. on_unnumbered slot i k ++ pushed_unnumbered slot is k

-- the packets of a step have their payloads on the slot of the step, and none on another
packets_here : (slot : ℕ) (p : Batch) (first count : ℕ) → (p.mark == slot) ≡ true → pushed_on slot (packets_from p first count) ≡ map p.bytes (range_with_len first count)
packets_here slot p first zero e = refl
packets_here slot p first (suc count) e =
    λ k. (if e k then p.bytes first ∷ [] else []) ++ packets_here slot p (first + 1) count e k

packets_elsewhere : (slot : ℕ) (p : Batch) (first count : ℕ) → (p.mark == slot) ≡ false → pushed_on slot (packets_from p first count) ≡ []
packets_elsewhere slot p first zero e = refl
packets_elsewhere slot p first (suc count) e =
    λ k. (if e k then p.bytes first ∷ [] else []) ++ packets_elsewhere slot p (first + 1) count e k

-- ---- the pieces of a step

blob_pushed : (slot own len size : ℕ) (t : Bool) → (own == slot) ≡ t
    → pushed_on slot (pushed_by (step.Blob own len size)) ≡ all_pieces (if t then record { blob = blob_bytes len; size = size } ∷ [] else [])
blob_pushed slot own len size true e =
    packets_here slot (batch_of (step.Blob own len size)) 0 (piece_count len size) e
    ∙ ap (λ n. map (λ j. piece_at (blob_bytes len) size (j * size)) (range_with_len 0 (piece_count n size))) (sym (burst_length len FIRST_BYTE))
    ∙ sym (append-nil (pieces_of (blob_bytes len) size))
blob_pushed slot own len size false e = packets_elsewhere slot (batch_of (step.Blob own len size)) 0 (piece_count len size) e

not_unmarked : (slot : ℕ) → slot < SLOTS → (UNMARKED == slot) ≡ false
not_unmarked slot low = ne_eqb UNMARKED slot (λ e. omega (arith, e, low))

step_pushed : (slot : ℕ) (x : PlainStep) → slot < SLOTS → sends_packets slot x ≡ false → pushed_on slot (pushed_by x) ≡ all_pieces (cut_on slot x)
step_pushed slot (step.Send own bytes) low none = packets_elsewhere slot (batch_of (step.Send own bytes)) 0 1 none
step_pushed slot (step.Burst own count len) low none = packets_elsewhere slot (batch_of (step.Burst own count len)) 0 count none
step_pushed slot (step.Blob own len size) low none = blob_pushed slot own len size (own == slot) refl
step_pushed slot (step.Raw header bytes) low none = packets_elsewhere slot (batch_of (step.Raw header bytes)) 0 1 (not_unmarked slot low)
step_pushed slot _ low none = refl

-- ---- and of a script

none_first : (a b : Bool) → (a || b) ≡ false → a ≡ false
none_first true b e = e
none_first false b e = refl

none_rest : (a b : Bool) → (a || b) ≡ false → b ≡ false
none_rest true b e = absurd cc
none_rest false b e = e

steps_pushed : (slot : ℕ) (steps : List PlainStep) → slot < SLOTS → list_any (sends_packets slot) steps ≡ false → pushed_on slot (flat_map pushed_by steps) ≡ all_pieces (cuts_on slot steps)
steps_pushed slot [] low none = refl
steps_pushed slot (x ∷ xs) low none =
    let first : pushed_on slot (pushed_by x) ≡ all_pieces (cut_on slot x) = step_pushed slot x low (none_first (sends_packets slot x) (list_any (sends_packets slot) xs) none) in
    let rest : pushed_on slot (flat_map pushed_by xs) ≡ all_pieces (cuts_on slot xs) = steps_pushed slot xs low (none_rest (sends_packets slot x) (list_any (sends_packets slot) xs) none) in
    flat_map-append (payload_on slot) (pushed_by x) (flat_map pushed_by xs) ∙ (λ k. first k ++ rest k)
    ∙ sym (flat_map-append (λ (cut : Cut). pieces_of cut.blob cut.size) (cut_on slot x) (cuts_on slot xs))

none_later : (slot at : ℕ) (steps : List PlainStep) → list_any (sends_packets slot) steps ≡ false → list_any (sends_packets slot) (drop at steps) ≡ false
none_later slot zero steps none = none
none_later slot (suc at) [] none = none
none_later slot (suc at) (x ∷ xs) none = none_later slot at xs (none_rest (sends_packets slot x) (list_any (sends_packets slot) xs) none)

-- a beginning of what steps push has on the slot a beginning of the pieces of their blobs
begins : (slot at : ℕ) (steps : List PlainStep) (is : List ItemShown) → slot < SLOTS → list_any (sends_packets slot) steps ≡ false → IsBeginning (map unnumbered is) (flat_map pushed_by (drop at steps))
    → IsBeginning (pushed_on slot is) (all_pieces (cuts_on slot (drop at steps)))
begins slot at steps is low none b = record {
  rest = pushed_on slot b.rest;
  whole = ap (λ ps. ps ++ pushed_on slot b.rest) (sym (pushed_unnumbered slot is)) ∙ sym (flat_map-append (payload_on slot) (map unnumbered is) b.rest)
      ∙ ap (pushed_on slot) b.whole ∙ steps_pushed slot (drop at steps) low (none_later slot at steps none);
}

-- ---- each blob can be cut

abbrev IsCut : Cut → Type 0
IsCut cut = CanBeCut cut.blob cut.size

step_cut : (slot : ℕ) (x : PlainStep) → IsStep x → AllByRecursion IsCut (cut_on slot x)
step_cut slot (step.Blob own len size) h = by (own == slot)
  where
    this : CanBeCut (blob_bytes len) size
    this = record {
      some = subst (λ n. 0 < n) (sym (burst_length len FIRST_BYTE)) (omega (arith, h.0.1));
      fits = subst (λ n. n ≤ MAX_BLOB) (sym (burst_length len FIRST_BYTE)) h.0.2;
      wide = omega (arith, h.0.3);
      short = h.0.4;
    }

    by : (t : Bool) → AllByRecursion IsCut (if t then record { blob = blob_bytes len; size = size } ∷ [] else [])
    by true = (this, tt)
    by false = tt
step_cut slot _ h = tt

steps_cut : (slot at : ℕ) (steps : List PlainStep) → AllByRecursion IsStep steps → AllByRecursion IsCut (cuts_on slot (drop at steps))
steps_cut slot zero [] all = tt
steps_cut slot zero (x ∷ xs) all = AllByRecursion-append IsCut (cut_on slot x) (cuts_on slot xs) (step_cut slot x all.0) (steps_cut slot zero xs all.1)
steps_cut slot (suc at) [] all = tt
steps_cut slot (suc at) (x ∷ xs) all = steps_cut slot at xs all.1

-- ---- the law

pub sends_pieces : PushSteps → SendPieces
sends_pieces push seat steps es low all none log =
    let pushed = push seat.app steps es all log in
    record {
      cuts = λ at. All-from_recursion IsCut (cuts_on seat.slot (drop at steps)) (steps_cut seat.slot at steps all);
      whole = begins seat.slot 0 steps (puts (queue.Up seat.app) es) low none pushed.whole;
      since = λ first later at e a. begins seat.slot at steps (puts (queue.Up seat.app) later) low none (pushed.since first later at e a);
      after = λ before rest n e.
          let asked : IsAsked steps before rest n = pushed.around before rest n e in
          record { asked = asked; pieces = begins seat.slot (asked.at + 1) steps rest low none asked.last };
    }
