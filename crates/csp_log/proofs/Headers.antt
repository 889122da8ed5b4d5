-- the headers of the packets that entries moved are words, as those of their rows
use Rattle.std.proofs.Common.{◌≡◌, ℕ, List, [], ◌∷◌, length, map, refl, None, Some, Option}
use Rattle.std.specs.List.{AllByRecursion}
use Rattle.std.specs.Prelude.{All, slice_get}
use Rattle.std.proofs.lemmas.Option.{get_or_from_slice_get, slice_get_within}
use Rattle.csp_base.specs.declared.traces.Trace.{Trace}
use Rattle.csp_buffer.specs.Trails.{trace_of}
use Rattle.csp_log.specs.Headers.{MovesWord, MoveWords}
use Rattle.csp_log.specs.Moving.{moved_by, moved_in}
use Rattle.csp_log.specs.Rows.{answer_of, bytes_in, entry_at, kept_entry, op_of, IsDeedWord, IsRowIn}
use Rattle.csp_log.specs.declared.event.Event.{Event}
use Rattle.csp_log.specs.declared.row.Deed.{Deed}
use Rattle.csp_log.specs.declared.row.Deed.TheVariants as deed
use Rattle.csp_log.specs.declared.row.ItemHead.TheVariants as head
use Rattle.csp_log.specs.declared.row.Line.{Line}
use Rattle.csp_log.specs.declared.row.Line.TheVariants as line
use Rattle.csp_log.specs.declared.row.LogRow.{LogRow}

-- what a deed moved has the header that is kept of it
deed-moves : (bytes : List ℕ) (trace : Trace) (d : Deed) → IsDeedWord d → MovesWord (moved_by (op_of bytes trace d) (answer_of bytes trace d))
deed-moves bytes trace deed.Rested h = tt
deed-moves bytes trace (deed.Took p) h = tt
deed-moves bytes trace deed.FoundNoBuffer h = tt
deed-moves bytes trace (deed.Gave p) h = tt
deed-moves bytes trace (deed.FoundPoolFull p) h = tt
deed-moves bytes trace (deed.Pushed q (head.Packet mark p)) h = h
deed-moves bytes trace (deed.Pushed q (head.Frame can)) h = tt
deed-moves bytes trace (deed.Pushed q (head.Note n)) h = tt
deed-moves bytes trace (deed.FoundFull q (head.Packet mark p)) h = tt
deed-moves bytes trace (deed.FoundFull q (head.Frame can)) h = tt
deed-moves bytes trace (deed.FoundFull q (head.Note n)) h = tt
deed-moves bytes trace (deed.Popped q (head.Packet mark p)) h = h
deed-moves bytes trace (deed.Popped q (head.Frame can)) h = tt
deed-moves bytes trace (deed.Popped q (head.Note n)) h = tt
deed-moves bytes trace (deed.FoundEmpty q) h = tt

-- so it is of the entry of each line
line-moves : (rows : List LogRow) (bytes : List ℕ) (events : List Event) (l : Line) → All (IsRowIn (length bytes) (length events)) rows → MovesWord (moved_in (entry_at rows bytes events l))
line-moves rows bytes events (line.Rested time) all = tt
line-moves rows bytes events (line.FoundNoBuffer time) all = tt
line-moves rows bytes events (line.FoundEmpty q time) all = tt
line-moves rows bytes events (line.Kept k) all = kept-moves (slice_get rows k) refl where
  kept-moves : (r : Option LogRow) → slice_get rows k ≡ r → MovesWord (moved_in (kept_entry bytes events r))
  kept-moves None there = tt
  kept-moves (Some row) there =
      let inside : IsRowIn (length bytes) (length events) row = rw (get_or_from_slice_get rows k row row there) at (all k row (slice_get_within rows k row there)) in
      deed-moves (bytes_in bytes row) (trace_of row.trail) row.deed inside.word

-- and of all entries
pub lines-move : (rows : List LogRow) (bytes : List ℕ) (events : List Event) (lines : List Line) → All (IsRowIn (length bytes) (length events)) rows → MoveWords (map (entry_at rows bytes events) lines)
lines-move rows bytes events [] all = tt
lines-move rows bytes events (l ∷ lines) all = (line-moves rows bytes events l all, lines-move rows bytes events lines all)
