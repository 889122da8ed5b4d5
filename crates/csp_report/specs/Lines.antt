-- Lines of words.
use Rattle.std.specs.Prelude.{ℕ, List, [], ◌∷◌, ◌++◌}
use Rattle.std.specs.List.{flat_map, join_with_byte}
use Rattle.std.specs.Fmt.{decimal}

-- a line: its words, byte by byte
abbrev pub Line : Type 0
Line = List (List ℕ)

-- a line's bytes: its words with a space between each two, and the line feed that ends it
abbrev pub ended_line : Line → List ℕ
ended_line words = join_with_byte 32 words ++ 10 ∷ []

-- a text: its lines, joined
abbrev pub text_of : List Line → List ℕ
text_of lines = flat_map ended_line lines

-- the first words of a line on a connection: `WORD NODE APP SLOT ORD`
abbrev pub conn_words : List ℕ → List ℕ → List ℕ → ℕ → ℕ → Line
conn_words word node app slot ordinal = word ∷ node ∷ app ∷ decimal slot ∷ decimal ordinal ∷ []
