-- A text as the list of its lines.
use Rattle.std.specs.Prelude.{ℕ, List, [], ◌∷◌, ◌++◌}
use Rattle.std.specs.List.{flat_map}

-- a line with the line feed that ends it
abbrev pub ended_line : List ℕ → List ℕ
ended_line line = line ++ 10 ∷ []

-- a text: its lines, joined
abbrev pub text_of : List (List ℕ) → List ℕ
text_of lines = flat_map ended_line lines
