-- A line's words against what stands in their places.
use Rattle.std.specs.Prelude.{ℕ, ◌+◌, ◌-◌, Bool, true, ◌&&◌, ◌||◌, ◌==◌, nat_le, List, [], ◌∷◌, length, drop, slice_index_or}
use Rattle.std.specs.List.{list_all}
use Rattle.std.specs.Str.{bytes_eq}
use Rattle.csp_text.specs.Names.{is_name}
use Rattle.csp_text.specs.Numbers.{is_decimal, number_of}
use Rattle.csp_text.specs.Hexadecimal.{is_bytes, bytes_of, is_hex_word}
use Rattle.csp_scene.specs.Moves.{is_move}
use Rattle.csp_scene.specs.Table.{keyword_text}
use Rattle.csp_scene.specs.declared.limits.TheConstants.{MAX_HUB_NODES}
use Rattle.csp_scene.specs.declared.table.Part.{Part}
use Rattle.csp_scene.specs.declared.table.Part.TheVariants as part
use Rattle.csp_scene.specs.declared.checks.Check.{Check}
use Rattle.csp_scene.specs.declared.checks.Check.TheVariants as check

-- a decimal number from low to high
abbrev pub is_in_range : ℕ → ℕ → List ℕ → Bool
is_in_range low high word = is_decimal word && nat_le low (number_of word) && nat_le (number_of word) high

-- bytes in hexadecimal digits, from least to most of them
abbrev pub has_bytes : ℕ → ℕ → List ℕ → Bool
has_bytes least most word = is_bytes word && nat_le least (length (bytes_of word)) && nat_le (length (bytes_of word)) most

-- what a check asks of a word: a fixed word of its place
abbrev pub is_fixed : Part → List ℕ → Bool
is_fixed (part.Fixed keyword) word = bytes_eq word (keyword_text keyword)
is_fixed (part.Either one other) word = bytes_eq word (keyword_text one) || bytes_eq word (keyword_text other)
is_fixed part.Name word = true
is_fixed (part.Number low high) word = true
is_fixed part.Word word = true
is_fixed (part.Bytes least most) word = true
is_fixed part.Moves word = true
is_fixed part.Text word = true
is_fixed part.Nodes word = true

-- the form of a name, and in a step word of each part
abbrev pub is_named : Part → List ℕ → Bool
is_named (part.Fixed keyword) word = true
is_named (part.Either one other) word = true
is_named part.Name word = is_name word
is_named (part.Number low high) word = true
is_named part.Word word = true
is_named (part.Bytes least most) word = true
is_named part.Moves word = is_move word
is_named part.Text word = true
is_named part.Nodes word = is_name word

-- a number or hexadecimal text in its range
abbrev pub is_numbered : Part → List ℕ → Bool
is_numbered (part.Fixed keyword) word = true
is_numbered (part.Either one other) word = true
is_numbered part.Name word = true
is_numbered (part.Number low high) word = is_in_range low high word
is_numbered part.Word word = is_hex_word word
is_numbered (part.Bytes least most) word = has_bytes least most word
is_numbered part.Moves word = true
is_numbered part.Text word = true
is_numbered part.Nodes word = true

-- a word is such as its place asks, in this check
abbrev pub passes : Check → Part → List ℕ → Bool
passes check.Fixed part word = is_fixed part word
passes check.Name part word = is_named part word
passes check.Number part word = is_numbered part word

-- each word passes the check against what stands in its place
abbrev pub all_pass : Check → List Part → List (List ℕ) → Bool
all_pass check [] words = true
all_pass check (part ∷ parts) [] = true
all_pass check (part ∷ parts) (word ∷ words) = passes check part word && all_pass check parts words

-- the last part of a shape, which takes all words to the line's end where it is step words, a text or nodes
abbrev pub last_part : List Part → Part
last_part shape = slice_index_or shape (length shape - 1) part.Name

-- a place takes so many words more than one: step words and a text as many as there are, the nodes of a hub up to their number, and no other any
abbrev pub takes_more : Part → (more : ℕ) → Bool
takes_more (part.Fixed keyword) more = more == 0
takes_more (part.Either one other) more = more == 0
takes_more part.Name more = more == 0
takes_more (part.Number low high) more = more == 0
takes_more part.Word more = more == 0
takes_more (part.Bytes least most) more = more == 0
takes_more part.Moves more = true
takes_more part.Text more = true
takes_more part.Nodes more = nat_le (more + 2) MAX_HUB_NODES

-- a shape has so many words
abbrev pub has_count : List Part → ℕ → Bool
has_count shape count = nat_le (length shape) count && takes_more (last_part shape) (count - length shape)

-- each word passes the check, the words past the shape's end against its last part
abbrev pub whole_passes : Check → List Part → List (List ℕ) → Bool
whole_passes check shape words = all_pass check shape words && list_all (passes check (last_part shape)) (drop (length shape) words)
