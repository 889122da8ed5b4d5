-- A text cut into parts, each with the place at which it stands.
use Rattle.std.specs.Prelude.{ℕ, ◌+◌, ◌==◌, not, List, [], ◌∷◌, length, filter, Option, None, Some, slice_get}
use Rattle.std.specs.List.{slice_split}

-- a part of a text, and the place of its first byte
pub record Part : Type 0 where
  pub at : ℕ
  pub bytes : List ℕ

-- the place at which a part ends
abbrev pub end_of : Part → ℕ
end_of part = part.at + length part.bytes

-- parts in a row from a place on, with one byte between each two
abbrev pub placed : ℕ → List (List ℕ) → List Part
placed at [] = []
placed at (bytes ∷ rest) = record { at = at; bytes = bytes } ∷ placed (at + length bytes + 1) rest

-- the parts that a separator cuts a text into, which begins at this place
abbrev pub parts_of : ℕ → ℕ → List ℕ → List Part
parts_of separator at text = placed at (slice_split (λ b. b == separator) text)

-- the place of a part that may be missing
abbrev pub place_or : ℕ → Option Part → ℕ
place_or missing None = missing
place_or missing (Some part) = part.at

-- the parts that have a byte
abbrev pub filled : List Part → List Part
filled parts = filter (λ part. not (length part.bytes == 0)) parts

-- the rows of a text, which commas separate
abbrev pub rows_of : List ℕ → List Part
rows_of text = parts_of 44 0 text

-- the words of a row, which spaces separate
abbrev pub words_of : Part → List Part
words_of row = filled (parts_of 32 row.at row.bytes)

-- the numbers of a word `ADDR/MASK`, which a slash separates
abbrev pub fields_of : Part → List Part
fields_of word = parts_of 47 word.at word.bytes

-- the place of a row's first word, or the row's end
abbrev pub start_of : Part → ℕ
start_of row = place_or (end_of row) (slice_get (words_of row) 0)
