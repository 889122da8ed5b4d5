-- The words of a line after the first, each by its place.
use Rattle.std.specs.Prelude.{ℕ, ◌+◌, Bool, false, List, [], ◌∷◌, drop, slice_index_or, Option}
use Rattle.std.specs.List.{position, list_any, flat_map}
use Rattle.std.specs.Option.{option_map}
use Rattle.std.specs.Str.{bytes_eq}
use Rattle.csp_text.specs.Numbers.{number_of}
use Rattle.csp_scene.specs.Table.{keyword_text}
use Rattle.csp_scene.specs.declared.table.Keyword.{Keyword}
use Rattle.csp_scene.specs.declared.table.Part.{Part}
use Rattle.csp_scene.specs.declared.table.Part.TheVariants as part

-- the word in a place, and the number that it writes
abbrev pub word_at : List (List ℕ) → (place : ℕ) → List ℕ
word_at args place = slice_index_or args place []

-- the number that an argument writes
abbrev pub number_at : List (List ℕ) → (place : ℕ) → ℕ
number_at args place = number_of (word_at args place)

-- whether a part of a line is this fixed word
abbrev pub is_keyword : Keyword → Part → Bool
is_keyword keyword (part.Fixed other) = bytes_eq (keyword_text other) (keyword_text keyword)
is_keyword keyword (part.Either one other) = false
is_keyword keyword part.Name = false
is_keyword keyword (part.Number low high) = false
is_keyword keyword part.Word = false
is_keyword keyword (part.Bytes least most) = false
is_keyword keyword part.Moves = false
is_keyword keyword part.Text = false
is_keyword keyword part.Nodes = false

-- the place of a fixed word in a shape, where the shape has it
abbrev pub keyword_place : Keyword → List Part → Option ℕ
keyword_place keyword shape = position (is_keyword keyword) shape

-- a line has a fixed word
abbrev pub has_keyword : Keyword → List Part → Bool
has_keyword keyword shape = list_any (is_keyword keyword) shape

-- the number that follows a fixed word, where the line has that word
abbrev pub setting : Keyword → List Part → List (List ℕ) → Option ℕ
setting keyword shape args = option_map (λ place. number_at args (place + 1)) (keyword_place keyword shape)

-- a word with a space before it, and the text of a line from a place on: its words there
abbrev pub spaced : List ℕ → List ℕ
spaced word = 32 ∷ word

-- the text of a line from an argument on, a space before each word
abbrev pub text_from : List (List ℕ) → (place : ℕ) → List ℕ
text_from args place = flat_map spaced (drop place args)
