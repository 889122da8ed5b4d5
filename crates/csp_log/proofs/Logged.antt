-- what is said of a turn shows it, and the entries of a log stay what they are while its lists grow
use Rattle.std.proofs.Common.{◌≡◌, ℕ, zero, suc, ◌+◌, ◌-◌, ◌*◌, ◌<◌, ◌≤◌, Bool, true, false, List, [], ◌∷◌, ◌++◌, length, map, refl, sym, subst, ap, ◌∙◌, append-nil, arith, rules, ◌==◌, Some}
use Rattle.std.proofs.Math.Nat.{suc-mul}
use Rattle.std.proofs.Math.Numerals.{sub-one}
use Rattle.std.specs.Prelude.{slice_range, slice_get, All, take}
use Rattle.std.specs.List.{ends_with}
use Rattle.std.proofs.lemmas.Bool.Decides.{nat_tests, Decides-eqb}
use Rattle.std.proofs.Math.Dec.{eqb}
use Rattle.std.proofs.lemmas.Option.{same_Some}
use Rattle.std.proofs.lemmas.Slice.Eq.{ends_is}
use Rattle.std.proofs.lemmas.Grind.{common_steps}
use Rattle.std.proofs.lemmas.List.{map-append, length-append}
use Rattle.std.proofs.lemmas.List.Concat.{flat_map-append}
use Rattle.std.proofs.lemmas.List.Elements.{All-head, All-tail, All-weaker, All-push, All-append}
use Rattle.csp_base.specs.declared.limits.TheConstants.{MAX_FRAME}
use Rattle.csp_base.specs.declared.traces.Trace.{Trace}
use Rattle.csp_buffer.specs.Trails.{trace_of}
use Rattle.csp_buffer.specs.declared.trail.Trail.{Trail}
use Rattle.csp_log.specs.PlainDraft.{PlainDraft}
use Rattle.csp_log.specs.PlainLog.{entry_with, all_events}
use Rattle.csp_log.specs.Rows.{draft_of, spoken_of, row_entry, kept_entry, entry_at, IsDeedLong, IsDeedWord, IsKeptIn, IsRowIn, IsLineIn, Says}
use Rattle.csp_log.specs.declared.entry.Entry.{Entry}
use Rattle.csp_log.specs.declared.event.Event.{Event}
use Rattle.csp_log.specs.declared.event.TheConstants.{MAX_EVENTS}
use Rattle.csp_log.specs.declared.row.Deed.{Deed}
use Rattle.csp_log.specs.declared.row.Deed.TheVariants as deed
use Rattle.csp_log.specs.declared.row.Line.{Line}
use Rattle.csp_log.specs.declared.row.Line.TheVariants as line
use Rattle.csp_log.specs.declared.row.LogRow.{LogRow}

-- a part of a list is one of any list that goes on from it
slice_range-more : {X : Type 0} (xs more : List X) (i j : ℕ) → j ≤ length xs → slice_range (xs ++ more) i j ≡ slice_range xs i j
slice_range-more xs more i j h = grind (arith, common_steps)

-- what was appended, as a part
slice_range-appended : {X : Type 0} (xs more : List X) → slice_range (xs ++ more) (length xs) (length xs + length more) ≡ more
slice_range-appended xs more = grind (arith, common_steps)

-- an element of a list is one of any list that goes on from it
slice_get-more : {X : Type 0} (xs more : List X) (i : ℕ) → i < length xs → slice_get (xs ++ more) i ≡ slice_get xs i
slice_get-more [] more i h = absurd (omega arith)
slice_get-more (x ∷ xs) more zero h = refl
slice_get-more (x ∷ xs) more (suc i) h = slice_get-more xs more i (omega arith)

slice_get-pushed : {X : Type 0} (xs : List X) (x : X) → slice_get (xs ++ x ∷ []) (length xs) ≡ Some x
slice_get-pushed [] x = refl
slice_get-pushed (y ∷ xs) x = slice_get-pushed xs x

-- what a line says by itself, it says only where nothing was told
pub says-alone : (rows : List LogRow) (bytes : List ℕ) (events : List Event) (time : ℕ) (bs : List ℕ) (trace : Trace) (quiet : Bool) (d : Deed) (l : Line) (told : List Event) → spoken_of quiet time d ≡ Some l → (quiet ≡ true → told ≡ [])
    → Says rows bytes events time bs (draft_of bs trace d) told l rows bytes events
says-alone rows bytes events time bs trace quiet d l told e none =
    let shown = spoken-shows quiet d l e in
    record {
      rows_more = [];
      bytes_more = [];
      events_more = [];
      rows_are = search rules;
      bytes_are = search rules;
      events_are = search rules;
      told_are = sym (none shown.0);
      once = λ front split. refl;
      few = omega arith;
      inside = search rules;
      said_in = shown.1;
      shows = rw (none shown.0) shown.2;
    } where
      IsShown : Bool → Deed → Line → Type 0
      IsShown quiet d l = (quiet ≡ true) × (IsLineIn (length rows) l) × (entry_at rows bytes events l ≡ entry_with time (draft_of bs trace d) [])

      spoken-shows : (quiet : Bool) (d : Deed) (l : Line) → spoken_of quiet time d ≡ Some l → IsShown quiet d l
      spoken-shows false d l e = cc
      spoken-shows true deed.Rested l e = subst (IsShown true deed.Rested) (same_Some (line.Rested time) l e) (refl, tt, refl)
      spoken-shows true deed.FoundNoBuffer l e = subst (IsShown true deed.FoundNoBuffer) (same_Some (line.FoundNoBuffer time) l e) (refl, tt, refl)
      spoken-shows true (deed.FoundEmpty q) l e = subst (IsShown true (deed.FoundEmpty q)) (same_Some (line.FoundEmpty q time) l e) (refl, tt, refl)
      spoken-shows true (deed.Took p) l e = cc
      spoken-shows true (deed.Gave p) l e = cc
      spoken-shows true (deed.FoundPoolFull p) l e = cc
      spoken-shows true (deed.Pushed q i) l e = cc
      spoken-shows true (deed.FoundFull q i) l e = cc
      spoken-shows true (deed.Popped q i) l e = cc

-- bytes with which a list ends stand in it, and so do those that are appended
ended : (front bytes carried : List ℕ) (n : ℕ) → bytes ≡ front ++ carried → n ≡ length front → IsKeptIn bytes bytes carried n
ended front bytes carried n split at = record {
  more = [];
  after_is = search rules;
  inside = rw (at, split) (grind (arith, common_steps));
  there = rw (at, split) (slice_range-appended front carried);
  once = λ front split. refl;
}

pub kept_again : (bytes carried : List ℕ) (n : ℕ) (r : Bool) → r ≡ ends_with eqb bytes carried → r ≡ true → n ≡ length bytes - length carried → IsKeptIn bytes bytes carried n
kept_again bytes carried n r is ends at =
    let front : List ℕ = take (length bytes - length carried) bytes in
    let split : bytes ≡ front ++ carried = (ends_is Decides-eqb bytes carried r is).0 ends in
    let parts : length bytes ≡ length front + length carried = ap length split ∙ length-append front carried in
    ended front bytes carried n split (omega arith)

pub kept_anew : (bytes after carried : List ℕ) (first : ℕ) (r : Bool) → r ≡ ends_with eqb bytes carried → r ≡ false → after ≡ bytes ++ carried → first ≡ length bytes → IsKeptIn bytes after carried first
kept_anew bytes after carried first r is differs more at = record {
  more = carried;
  after_is = more;
  inside = rw (at, more) (grind (arith, common_steps));
  there = rw (at, more) (slice_range-appended bytes carried);
  once = λ front split. let ends = (ends_is Decides-eqb bytes carried r is).1 front split in absurd cc;
}

-- and of what it can't say there is a row
pub says-kept : (rows : List LogRow) (bytes : List ℕ) (events : List Event) (time : ℕ) (bs : List ℕ) (d : Deed) (t : Trail) (told : List Event) (first_byte first_event place : ℕ) (rows_after : List LogRow) (bytes_after : List ℕ) (events_after : List Event)
    → place ≡ length rows → IsKeptIn bytes bytes_after bs first_byte → first_event ≡ length events
    → rows_after ≡ rows ++ record { time = time; first_byte = first_byte; first_event = first_event; bytes = length bs; events = length told; deed = d; trail = t } ∷ [] → events_after ≡ events ++ told
    → IsDeedLong (length bs) d → IsDeedWord d → length bs ≤ MAX_FRAME → length told ≤ MAX_EVENTS
    → Says rows bytes events time bs (draft_of bs (trace_of t) d) told (line.Kept place) rows_after bytes_after events_after
says-kept rows bytes events time bs d t told first_byte first_event place rows_after bytes_after events_after at kept event rows_are events_are fits word short few =
    let r : LogRow = record { time = time; first_byte = first_byte; first_event = first_event; bytes = length bs; events = length told; deed = d; trail = t } in
    record {
      rows_more = r ∷ [];
      bytes_more = kept.more;
      events_more = told;
      rows_are = rows_are;
      bytes_are = kept.after_is;
      events_are = events_are;
      told_are = refl;
      once = kept.once;
      few = omega arith;
      inside = All-push (IsRowIn (length bytes_after) (length events_after)) [] r (search rules) (record {
        bytes_in = kept.inside;
        fits = fits;
        word = word;
        short = short;
        events_in = rw (event, events_are) (grind (arith, common_steps));
        few = few;
      });
      said_in = rw (at, rows_are) (grind (arith, common_steps));
      shows = rw (at, rows_are, events_are, slice_get-pushed rows r, kept.there, event, slice_range-appended events told) refl;
    }

-- the entries of these lines, whatever follows the lists
row_entry-more : (bytes more : List ℕ) (events told : List Event) (r : LogRow) → IsRowIn (length bytes) (length events) r → row_entry (bytes ++ more) (events ++ told) r ≡ row_entry bytes events r
row_entry-more bytes more events told r h =
    rw (slice_range-more bytes more r.first_byte (r.first_byte + r.bytes) h.bytes_in, slice_range-more events told r.first_event (r.first_event + r.events) h.events_in) refl

kept_entry-more : (bytes more : List ℕ) (events told : List Event) (rows : List LogRow) (k : ℕ) → All (IsRowIn (length bytes) (length events)) rows
    → kept_entry (bytes ++ more) (events ++ told) (slice_get rows k) ≡ kept_entry bytes events (slice_get rows k)
kept_entry-more bytes more events told [] k all = refl
kept_entry-more bytes more events told (r ∷ rows) zero all = row_entry-more bytes more events told r (All-head (IsRowIn (length bytes) (length events)) r rows all)
kept_entry-more bytes more events told (r ∷ rows) (suc k) all = kept_entry-more bytes more events told rows k (All-tail (IsRowIn (length bytes) (length events)) r rows all)

entry_at-more : (rows others : List LogRow) (bytes more : List ℕ) (events told : List Event) (l : Line) → All (IsRowIn (length bytes) (length events)) rows → IsLineIn (length rows) l
    → entry_at (rows ++ others) (bytes ++ more) (events ++ told) l ≡ entry_at rows bytes events l
entry_at-more rows others bytes more events told (line.Rested time) all h = refl
entry_at-more rows others bytes more events told (line.FoundNoBuffer time) all h = refl
entry_at-more rows others bytes more events told (line.FoundEmpty q time) all h = refl
entry_at-more rows others bytes more events told (line.Kept k) all h = rw (slice_get-more rows others k h) (kept_entry-more bytes more events told rows k all)

entries-more : (rows others : List LogRow) (bytes more : List ℕ) (events told : List Event) (lines : List Line) → All (IsRowIn (length bytes) (length events)) rows → All (IsLineIn (length rows)) lines
    → map (entry_at (rows ++ others) (bytes ++ more) (events ++ told)) lines ≡ map (entry_at rows bytes events) lines
entries-more rows others bytes more events told [] all within = refl
entries-more rows others bytes more events told (l ∷ lines) all within =
    let P = IsLineIn (length rows) in
    rw (entry_at-more rows others bytes more events told l all (All-head P l lines within), entries-more rows others bytes more events told lines all (All-tail P l lines within)) refl

-- the entries with one more
pub entries-push : (rows : List LogRow) (bytes : List ℕ) (events : List Event) (time : ℕ) (carried : List ℕ) (draft : PlainDraft) (told : List Event) (said : Line) (rows_after : List LogRow) (bytes_after : List ℕ) (events_after : List Event) (lines : List Line)
    → Says rows bytes events time carried draft told said rows_after bytes_after events_after → All (IsRowIn (length bytes) (length events)) rows → All (IsLineIn (length rows)) lines
    → map (entry_at rows_after bytes_after events_after) (lines ++ said ∷ []) ≡ map (entry_at rows bytes events) lines ++ entry_with time draft told ∷ []
entries-push rows bytes events time carried draft told said rows_after bytes_after events_after lines s all within =
    let more = entries-more rows s.rows_more bytes s.bytes_more events s.events_more lines all within in
    map-append (entry_at rows_after bytes_after events_after) lines (said ∷ [])
    ∙ rw (s.rows_are, s.bytes_are, s.events_are) (ap (λ es. es ++ entry_at (rows ++ s.rows_more) (bytes ++ s.bytes_more) (events ++ s.events_more) said ∷ []) more)
    ∙ ap (λ e. map (entry_at rows bytes events) lines ++ e ∷ []) (rw (s.rows_are, s.bytes_are, s.events_are) at s.shows)

-- the events, where they were those of the entries, are those of the entries with one more
pub told-push : (rows : List LogRow) (bytes : List ℕ) (events : List Event) (time : ℕ) (carried : List ℕ) (draft : PlainDraft) (told : List Event) (said : Line) (rows_after : List LogRow) (bytes_after : List ℕ) (events_after : List Event) (lines : List Line)
    → Says rows bytes events time carried draft told said rows_after bytes_after events_after → All (IsRowIn (length bytes) (length events)) rows → All (IsLineIn (length rows)) lines
    → all_events (map (entry_at rows bytes events) lines) ≡ events
    → all_events (map (entry_at rows_after bytes_after events_after) (lines ++ said ∷ [])) ≡ events_after
told-push rows bytes events time carried draft told said rows_after bytes_after events_after lines s all within same =
    let before : List Entry = map (entry_at rows bytes events) lines in
    ap all_events (entries-push rows bytes events time carried draft told said rows_after bytes_after events_after lines s all within)
    ∙ flat_map-append (λ (e : Entry). e.events.items) before (entry_with time draft told ∷ [])
    ∙ ap (λ (es : List Event). es ++ (told ++ [])) same
    ∙ ap (λ (es : List Event). events ++ es) (append-nil told ∙ sym s.told_are)
    ∙ sym s.events_are

-- rows and lines stay inside longer lists
IsRowIn-more : (n m k l : ℕ) (r : LogRow) → n ≤ m → k ≤ l → IsRowIn n k r → IsRowIn m l r
IsRowIn-more n m k l r a b h = record { bytes_in = let w = h.bytes_in in omega arith; fits = h.fits; word = h.word; short = h.short; events_in = let w = h.events_in in omega arith; few = h.few }

IsLineIn-more : (n m : ℕ) (l : Line) → n ≤ m → IsLineIn n l → IsLineIn m l
IsLineIn-more n m (line.Rested _) le h = tt
IsLineIn-more n m (line.FoundNoBuffer _) le h = tt
IsLineIn-more n m (line.FoundEmpty _ _) le h = tt
IsLineIn-more n m (line.Kept k) le h = omega arith

pub rows-push : (rows : List LogRow) (bytes : List ℕ) (events : List Event) (time : ℕ) (carried : List ℕ) (draft : PlainDraft) (told : List Event) (said : Line) (rows_after : List LogRow) (bytes_after : List ℕ) (events_after : List Event)
    → Says rows bytes events time carried draft told said rows_after bytes_after events_after → All (IsRowIn (length bytes) (length events)) rows → All (IsRowIn (length bytes_after) (length events_after)) rows_after
rows-push rows bytes events time carried draft told said rows_after bytes_after events_after s all =
    let P = IsRowIn (length bytes_after) (length events_after) in
    let longer : length bytes ≤ length bytes_after = rw s.bytes_are (grind (arith, common_steps)) in
    let later : length events ≤ length events_after = rw s.events_are (grind (arith, common_steps)) in
    let old : All P rows = All-weaker (IsRowIn (length bytes) (length events)) P (λ r h. IsRowIn-more (length bytes) (length bytes_after) (length events) (length events_after) r longer later h) rows all in
    rw (← s.rows_are) at (All-append P rows s.rows_more old s.inside)

pub lines-push : (rows : List LogRow) (bytes : List ℕ) (events : List Event) (time : ℕ) (carried : List ℕ) (draft : PlainDraft) (told : List Event) (said : Line) (rows_after : List LogRow) (bytes_after : List ℕ) (events_after : List Event) (lines : List Line)
    → Says rows bytes events time carried draft told said rows_after bytes_after events_after → All (IsLineIn (length rows)) lines → All (IsLineIn (length rows_after)) (lines ++ said ∷ [])
lines-push rows bytes events time carried draft told said rows_after bytes_after events_after lines s within =
    let P = IsLineIn (length rows_after) in
    let more : length rows ≤ length rows_after = rw s.rows_are (grind (arith, common_steps)) in
    All-push P lines said (All-weaker (IsLineIn (length rows)) P (λ l h. IsLineIn-more (length rows) (length rows_after) l more h) lines within) s.said_in

-- what one of `spare` parts may take, the others still have their room
pub room_left : (len more spare each cap : ℕ) → 0 < spare → more ≤ each → len + spare * each ≤ cap → len + more + (spare - 1) * each ≤ cap
room_left len more zero each cap some fits room = absurd (omega arith)
room_left len more (suc n) each cap some fits room = rw (sub-one (suc n)) (let split : suc n * each ≡ n * each + each = suc-mul n each in omega arith)

-- a list of no elements
pub no-items : {X : Type 0} (xs : List X) → true ≡ (length xs == 0) → xs ≡ []
no-items [] e = refl
no-items (x ∷ xs) e = absurd (grind (arith, common_steps, nat_tests))
