-- Lines of a text and words of a line.
use Rattle.std.specs.Prelude.{ℕ, ◌-◌, not, ◌==◌, List, [], length, take, slice_index, filter, if◌then◌else◌}
use Rattle.std.specs.List.{slice_split}

-- a text without the line feed that it may end with
abbrev pub without_line_feed : List ℕ → List ℕ
without_line_feed text = if slice_index text (length text - 1) == 10 then take (length text - 1) text else text

-- the lines of a text: what line feeds separate, where the last line may lack its own; an empty text has none
abbrev pub lines_of : List ℕ → List (List ℕ)
lines_of text = if length text == 0 then [] else slice_split (λ b. b == 10) (without_line_feed text)

-- the words of a line: what spaces separate, and nothing empty
abbrev pub words_of : List ℕ → List (List ℕ)
words_of line = filter (λ word. not (length word == 0)) (slice_split (λ b. b == 32) line)
