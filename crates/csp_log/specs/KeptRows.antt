-- how the rows of a log are kept: in few bytes where their numbers are of 32 bits, and the others in a list of their own
use Rattle.std.specs.Prelude.{◌≡◌, ℕ, Bool, ◌+◌, ◌^◌, ◌<◌, ◌≤◌, ◌&&◌, [], ◌∷◌, ◌++◌, List, All, ⊤, nat_lt, length, get_or, vec_len, vec_capacity}
use Rattle.csp_buffer.specs.Trails.{full_of, is_brief}
use Rattle.csp_buffer.specs.declared.trail.BriefTrail.{BriefTrail}
use Rattle.csp_buffer.specs.declared.trail.Parts.TheVariants as part
use Rattle.csp_log.specs.declared.row.Deed.TheVariants as deed
use Rattle.csp_log.specs.declared.row.LogRow.{LogRow}
use Rattle.csp_log.specs.declared.row.KeptRow.{KeptRow}
use Rattle.csp_log.specs.declared.row.KeptRow.TheVariants as kept_row
use Rattle.csp_log.specs.declared.rows.Rows.TheInside.{Inside}

-- the rows of a log, the oldest first, and for how many more there is room
pub record PlainRows : Type 0 where
  pub rows : List LogRow
  pub room : ℕ

-- a row of nothing
abbrev pub no_row : LogRow
no_row = record { time = 0; first_byte = 0; first_event = 0; bytes = 0; events = 0; deed = deed.Rested; trail = record { serial = 0; hops = 0; index = 0; ack = 0; nth = 0; node = 0; iface = 0; owner = 0; parts = part.Neither } }

-- the row that a kept row stands for: the one that it says, or the one at a place among these
abbrev pub row_of : List LogRow → KeptRow → LogRow
row_of wides (kept_row.Brief events bytes time first_byte first_event d trail) = record { time = time; first_byte = first_byte; first_event = first_event; bytes = bytes; events = events; deed = d; trail = full_of trail }
row_of wides (kept_row.Wide place) = get_or wides place no_row

-- the numbers of a row are all of 32 bits
abbrev pub is_brief_row : LogRow → Bool
is_brief_row r = nat_lt r.time (2 ^ 32) && nat_lt r.first_byte (2 ^ 32) && nat_lt r.first_event (2 ^ 32) && is_brief r.trail

-- the kept row that says a row by itself, with its trail in fewer bytes
abbrev pub brief_row : LogRow → BriefTrail → KeptRow
brief_row r trail = kept_row.Brief r.events r.bytes r.time r.first_byte r.first_event r.deed trail

-- a kept row says its row by itself, or the row stands among so many others
abbrev pub IsKeptRowIn : ℕ → KeptRow → Type 0
IsKeptRowIn wides (kept_row.Brief _ _ _ _ _ _ _) = ⊤
IsKeptRowIn wides (kept_row.Wide place) = place < wides

-- a row was kept: what is kept of it stands last, with what was appended to the others
pub record IsRowKept (kept_rows : List KeptRow) (wides : List LogRow) (r : LogRow) (kept_rows_after : List KeptRow) (wides_after : List LogRow) : Type 0 where
  pub said : KeptRow
  pub more : List LogRow
  pub kept_rows_are : kept_rows_after ≡ kept_rows ++ said ∷ []
  pub wides_are : wides_after ≡ wides ++ more
  pub inside : IsKeptRowIn (length wides_after) said
  pub stands : row_of wides_after said ≡ r

-- each kept row has its row, and there is the room that is promised
pub record IsKept (r : Inside) : Type 0 where
  pub kept_rows : All (IsKeptRowIn (length r.wides.items)) r.kept_rows.items
  pub kept_room : vec_len r.kept_rows + r.room ≤ vec_capacity r.kept_rows
  pub wide_room : vec_len r.wides + r.room ≤ vec_capacity r.wides
