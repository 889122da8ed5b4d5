use Rattle.std.proofs.Common.{◌≡◌, ℕ, zero, suc, ◌+◌, ◌<◌, ◌≤◌, List, [], ◌∷◌, ◌++◌, length, drop, arith, ap, sym, ◌∙◌, add-one}
use Rattle.std.proofs.lemmas.List.{append_assoc}
use Rattle.std.proofs.lemmas.List.Concat.{flat_map-append, flat_map-cons}
use Rattle.std.specs.List.{flat_map}
use Rattle.std.specs.Option.{option_map_or}
use Rattle.std.specs.Prelude.{All, slice_get, slice_range}
use Rattle.std.specs.String.{string_bytes}
use Rattle.csp_log.specs.Idling.{IsIdle}
use Rattle.csp_log.specs.declared.entry.Entry.{Entry}
use Rattle.csp_record.proofs.Public.{dropped-over}
use Rattle.csp_report.specs.Events.{asked_lines, entry_lines}
use Rattle.csp_report.specs.Lines.{Line, ended_line, text_of}
use Rattle.csp_report.proofs.events.push_log.Goals as goal

-- the lines of the next entry, then those of the entries after it
next : {X : Type 0} → (f : X → List Line) (xs : List X) (i : ℕ) → i < length xs → text_of (option_map_or f (slice_get xs i) []) ++ text_of (flat_map f (drop (suc i) xs)) ≡ text_of (flat_map f (drop i xs))
next f [] i h = absurd (omega (arith, h))
next f (x ∷ xs) zero h = sym (ap (flat_map ended_line) (flat_map-cons f x xs) ∙ flat_map-append ended_line (f x) (flat_map f xs))
next f (x ∷ xs) (suc i) h = next f xs i (omega (arith, h))

joins : (out last : List ℕ) (now rest all : List ℕ) → last ≡ out ++ now → now ++ rest ≡ all → last ++ rest ≡ out ++ all
joins out last now rest all e f = ap (λ (l : List ℕ). l ++ rest) e ∙ (append_assoc out now rest ∙ ap (λ (l : List ℕ). out ++ l) f)

-- idle entries have no lines
lines-over : (node : List ℕ) (entries : List Entry) (i j : ℕ) → i ≤ j → All IsIdle (slice_range entries i j) → text_of (flat_map (entry_lines node) (drop i entries)) ≡ text_of (flat_map (entry_lines node) (drop j entries))
lines-over node = dropped-over IsIdle (λ entries. text_of (flat_map (entry_lines node) entries)) (λ e entries idle. ap (λ events. text_of (flat_map (asked_lines node e.time) events ++ flat_map (entry_lines node) entries)) idle.told)

pub loop-index-init : goal.loop-index-init
loop-index-init c =
    let first = c.next_deed-index.ensures in
    (ap (λ (rest : List ℕ). string_bytes c.args.out.now ++ rest) (sym (lines-over c.args.node.now c.args.log.now.entries 0 c.next_deed-index.result first.range.0 first.idle)), first.range.1)

pub loop-index-preserved : goal.loop-index-preserved
loop-index-preserved c =
    let l = c.loop-index in
    let f = entry_lines c.args.node.now in
    let entries = c.args.log.now.entries in
    let deed = c.next_deed-index-in-loop-index in (
      ap (λ (rest : List ℕ). string_bytes c.push_entry.new.out ++ rest) (sym (lines-over c.args.node.now entries (l.index + 1) deed.result deed.ensures.range.0 deed.ensures.idle))
          ∙ (rw (add-one l.index) (joins (string_bytes l.out) (string_bytes c.push_entry.new.out) (text_of (option_map_or f (slice_get entries l.index) [])) (text_of (flat_map f (drop (suc l.index) entries))) (text_of (flat_map f (drop l.index entries))) c.in_ok-push_entry.ensures (next f entries l.index (omega (arith, c.len.ensures.value, c.loop-index-test.true)))))
          ∙ l.invariant.0,
      deed.ensures.range.1,
    )
