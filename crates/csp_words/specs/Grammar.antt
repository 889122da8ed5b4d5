-- the grammar of the command line
use Rattle.std.specs.Prelude.{ℕ, ◌≡◌, ◌≤◌, ◌⊎◌, ◌&&◌, ◌++◌, Bool, true, false, if◌then◌else◌, List, [], ◌∷◌, map, Result, Ok, Err, codes}
use Rattle.std.specs.Fmt.{decimal}
use Rattle.std.specs.List.{range_with_len}
use Rattle.std.specs.Str.{bytes_eq}
use Rattle.csp_gen.specs.declared.scenario.TheConstants.{MAX_PACKETS}
use Rattle.csp_words.specs.declared.grammar.Command.{Command}
use Rattle.csp_words.specs.declared.grammar.Command.TheVariants.{Sim, Run, Gen, Tap}
use Rattle.csp_words.specs.declared.grammar.TheConstants.{DEFAULT_WORKERS, MAX_WORKERS}
use Rattle.csp_words.specs.declared.grammar.WordsError.{WordsError}
use Rattle.csp_words.specs.declared.grammar.WordsError.TheVariants.{Grammar}

-- a row of the grammar: words, and the command that they name
abbrev pub GrammarRow : Type 0
GrammarRow = List (List ℕ) × Command

-- `sim`
abbrev pub sim_row : GrammarRow
sim_row = (codes "sim" ∷ [], Sim)

-- `run`
abbrev pub run_words : List (List ℕ)
run_words = codes "run" ∷ []

-- the row of `run`
abbrev pub run_row : GrammarRow
run_row = (run_words, Run DEFAULT_WORKERS)

-- `tap`, and `tap --header` where the CRC covers the header
abbrev pub tap_words : (cover : Bool) → List (List ℕ)
tap_words false = codes "tap" ∷ []
tap_words true = codes "tap" ∷ codes "--header" ∷ []

-- their rows
abbrev pub tap_row : (cover : Bool) → GrammarRow
tap_row cover = (tap_words cover, Tap cover)

-- `run --workers N`, N in decimal digits
abbrev pub apart_words : ℕ → List (List ℕ)
apart_words workers = codes "run" ∷ codes "--workers" ∷ decimal workers ∷ []

-- the row of `run --workers N`
abbrev pub apart_row : ℕ → GrammarRow
apart_row workers = (apart_words workers, Run workers)

-- `run --workers=N`
abbrev pub joined_words : ℕ → List (List ℕ)
joined_words workers = codes "run" ∷ (codes "--workers=" ++ decimal workers) ∷ []

-- the row of `run --workers=N`
abbrev pub joined_row : ℕ → GrammarRow
joined_row workers = (joined_words workers, Run workers)

-- N from 1 to the most
unfoldable pub apart_rows : List GrammarRow
apart_rows = map apart_row (range_with_len 1 MAX_WORKERS)

-- the same of the other form
unfoldable pub joined_rows : List GrammarRow
joined_rows = map joined_row (range_with_len 1 MAX_WORKERS)

-- `gen N`, N in decimal digits
abbrev pub gen_words : ℕ → List (List ℕ)
gen_words packets = codes "gen" ∷ decimal packets ∷ []

-- the row of `gen N`
abbrev pub gen_row : ℕ → GrammarRow
gen_row packets = (gen_words packets, Gen packets)

-- N from 1 to the most
unfoldable pub gen_rows : List GrammarRow
gen_rows = map gen_row (range_with_len 1 MAX_PACKETS)

-- the rows of the grammar
abbrev pub rows : List GrammarRow
rows = sim_row ∷ run_row ∷ tap_row false ∷ tap_row true ∷ (apart_rows ++ (joined_rows ++ gen_rows))

-- words are those of a row, neither more nor fewer
abbrev pub are_words : List (List ℕ) → List (List ℕ) → Bool
are_words [] [] = true
are_words [] (b ∷ others) = false
are_words (a ∷ words) [] = false
are_words (a ∷ words) (b ∷ others) = bytes_eq a b && are_words words others

-- the command of the first row with these words
abbrev pub found_in : List GrammarRow → List (List ℕ) → Result Command WordsError
found_in [] words = Err Grammar
found_in (row ∷ more) words = if are_words words row.0 then Ok row.1 else found_in more words

-- the command that words name
abbrev pub command_of : List (List ℕ) → Result Command WordsError
command_of words = found_in rows words

-- words are `run --workers N` or `run --workers=N` for this N, which is in its range, or `run` where N is the number of workers by default
pub record AreRun (workers : ℕ) (words : List (List ℕ)) : Type 0 where
  pub least : 1 ≤ workers
  pub most : workers ≤ MAX_WORKERS
  pub words_are : (words ≡ apart_words workers) ⊎ ((words ≡ joined_words workers) ⊎ ((words ≡ run_words) × (workers ≡ DEFAULT_WORKERS)))

-- words are `gen N` for this N, which is in its range
pub record AreGen (packets : ℕ) (words : List (List ℕ)) : Type 0 where
  pub least : 1 ≤ packets
  pub most : packets ≤ MAX_PACKETS
  pub words_are : words ≡ gen_words packets
