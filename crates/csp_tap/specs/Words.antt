-- Lines of words.
use Rattle.std.specs.Prelude.{ℕ, List, [], ◌∷◌, ◌++◌}
use Rattle.std.specs.List.{flat_map}

-- a word with a space before it
abbrev pub spaced : List ℕ → List ℕ
spaced word = 32 ∷ word

-- words, each with a space before it
abbrev pub words : List (List ℕ) → List ℕ
words list = flat_map spaced list

-- a line: its first word, and more words
abbrev pub line : List ℕ → List (List ℕ) → List ℕ
line first more = first ++ (words more ++ 10 ∷ [])
