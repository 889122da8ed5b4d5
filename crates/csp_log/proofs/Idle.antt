-- how a log finds the turns that moved or told something
use Rattle.std.proofs.Common.{◌≡◌, ℕ, suc, ◌+◌, ◌-◌, ◌<◌, ◌≤◌, Bool, true, false, ◌&&◌, nat_eq, List, [], ◌∷◌, ◌++◌, length, map, refl, ap, ◌∙◌, arith, Some, None, Option}
use Rattle.std.specs.Option.{option_map}
use Rattle.std.specs.Prelude.{All, slice_get, slice_range, get_or, take, drop}
use Rattle.std.proofs.Math.Seq.{take-suc}
use Rattle.std.proofs.lemmas.Bool.Decides.{nat_tests}
use Rattle.std.proofs.lemmas.Grind.{common_steps}
use Rattle.std.proofs.lemmas.List.{length-map}
use Rattle.std.proofs.lemmas.List.Elements.{All-push}
use Rattle.std.proofs.lemmas.Option.{same_Some, slice_get-map, slice_get_read, get_or_from_slice_get, slice_get_within}
use Rattle.csp_buffer.specs.Trails.{trace_of}
use Rattle.csp_log.specs.Idling.{IsIdle, is_idle, is_still, is_no_packet, is_no_note}
use Rattle.csp_log.specs.Rows.{entry_at, op_of, answer_of, bytes_in, events_in, IsRowIn}
use Rattle.csp_log.specs.declared.entry.Entry.{Entry}
use Rattle.csp_log.specs.declared.event.Event.{Event}
use Rattle.csp_log.specs.declared.moved.Moved.{Moved}
use Rattle.csp_log.specs.declared.moved.Moved.TheVariants as moved
use Rattle.csp_log.specs.declared.noted.Noted.{Noted}
use Rattle.csp_log.specs.declared.noted.Noted.TheVariants as noted
use Rattle.csp_log.specs.declared.row.Line.{Line}
use Rattle.csp_log.specs.declared.row.Line.TheVariants as line
use Rattle.csp_log.specs.declared.row.LogRow.{LogRow}

-- the log's entry at the place of a line is idle as the line's is
pub idle-line : (rows : List LogRow) (bytes : List ℕ) (events : List Event) (lines : List Line) (k : ℕ) (l : Line) (r : Bool) → k < length (map (entry_at rows bytes events) lines) → l ≡ get_or lines k l → is_idle (entry_at rows bytes events l) ≡ r
    → option_map is_idle (slice_get (map (entry_at rows bytes events) lines) k) ≡ Some r
idle-line rows bytes events lines k l r within at idle =
    let entry = entry_at rows bytes events in
    let there : slice_get lines k ≡ Some l = slice_get_read lines (length lines) k l refl (rw (length-map lines entry) at within) at in
    ap (option_map is_idle) (slice_get-map entry lines k)
    ∙ ap (λ o. option_map is_idle (option_map entry o)) there
    ∙ ap (λ b. Some b) idle

-- and that of a row as its deed and its number of events say
told-few : (bytes : List ℕ) (events : List Event) (r : LogRow) → IsRowIn (length bytes) (length events) r → length (events_in events r) ≡ r.events
told-few bytes events r h = let w = h.events_in in grind (arith, common_steps)

pub idle-row : (rows : List LogRow) (bytes : List ℕ) (events : List Event) (lines : List Line) (k place : ℕ) (l : Line) (row : LogRow) (r : Bool) → k < length (map (entry_at rows bytes events) lines) → l ≡ get_or lines k l
    → l ≡ line.Kept place → slice_get rows place ≡ Some row → All (IsRowIn (length bytes) (length events)) rows
    → (nat_eq row.events 0 && is_still (op_of (bytes_in bytes row) (trace_of row.trail) row.deed) (answer_of (bytes_in bytes row) (trace_of row.trail) row.deed)) ≡ r
    → option_map is_idle (slice_get (map (entry_at rows bytes events) lines) k) ≡ Some r
idle-row rows bytes events lines k place l row r within at is there all idle =
    let inside : IsRowIn (length bytes) (length events) row = rw (get_or_from_slice_get rows place row row there) at (all place row (slice_get_within rows place row there)) in
    idle-line rows bytes events lines k l r within at (rw (is, there, told-few bytes events row inside) idle)

pub some-told : (n : ℕ) (b : Bool) → (n ≡ 0 → ⊥) → (nat_eq n 0 && b) ≡ nat_eq n 0
some-told n b told = by_test (nat_eq n 0) refl where
  by_test : (r : Bool) → nat_eq n 0 ≡ r → (r && b) ≡ r
  by_test false e = refl
  by_test true e = absurd (told (grind (arith, common_steps, nat_tests)))

-- an entry that passes the test is idle
no-packet : (m : Moved) → is_no_packet m ≡ true → m ≡ moved.NoPacket
no-packet moved.NoPacket e = refl
no-packet (moved.Pushed _ _) e = cc
no-packet (moved.Popped _ _) e = cc

no-note : (n : Noted) → is_no_note n ≡ true → n ≡ noted.NoNote
no-note noted.NoNote e = refl
no-note (noted.Pushed _ _) e = cc
no-note (noted.Popped _ _) e = cc

no-events : (events : List Event) → nat_eq (length events) 0 ≡ true → events ≡ []
no-events [] e = refl
no-events (x ∷ events) e = absurd (grind (arith, common_steps, nat_tests))

both : (a b : Bool) → (a && b) ≡ true → (a ≡ true) × (b ≡ true)
both true b e = (refl, e)
both false b e = cc

pub idle-is : (e : Entry) → is_idle e ≡ true → IsIdle e
idle-is e idle =
    let parts = both _ _ idle in
    let still = both _ _ parts.1 in
    record { moved = no-packet _ still.0; noted = no-note _ still.1; told = no-events _ parts.0 }

-- one idle entry more
range-push : {X : Type 0} (xs : List X) (i j : ℕ) (x : X) → i ≤ j → slice_get xs j ≡ Some x → slice_range xs i (j + 1) ≡ slice_range xs i j ++ x ∷ []
range-push xs i j x le at =
    let within : j < length xs = slice_get_within xs j x at in
    let next : (j + 1) - i ≡ suc (j - i) = omega arith in
    let got : get_or (drop i xs) (j - i) x ≡ get_or xs j x = grind (arith, common_steps) in
    ap (λ n. take n (drop i xs)) next
    ∙ take-suc (drop i xs) (j - i) x (grind (arith, common_steps))
    ∙ ap (λ z. take (j - i) (drop i xs) ++ z ∷ []) (got ∙ get_or_from_slice_get xs j x x at)

pub idle-push : (entries : List Entry) (i j : ℕ) → i ≤ j → All IsIdle (slice_range entries i j) → option_map is_idle (slice_get entries j) ≡ Some true → All IsIdle (slice_range entries i (j + 1))
idle-push entries i j le all idle = with_entry (slice_get entries j) refl idle where
  with_entry : (o : Option Entry) → slice_get entries j ≡ o → option_map is_idle o ≡ Some true → All IsIdle (slice_range entries i (j + 1))
  with_entry None at e = cc
  with_entry (Some x) at e = rw (range-push entries i j x le at) (All-push IsIdle (slice_range entries i j) x all (idle-is x (same_Some (is_idle x) true e)))
