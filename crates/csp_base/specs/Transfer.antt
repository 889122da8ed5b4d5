-- What the two loops over a source and a sink have moved.
use Rattle.std.specs.Prelude.{◌≡◌, ℕ, ◌≤◌, List, [], ◌++◌, length, Option, None, Some}
use Rattle.std.specs.Io.KnownBytes.{Consumes, Appends, IsAtEnd}

-- the bytes taken are all that the source had, and none is left
abbrev pub TookAll : Option (List ℕ) → Option (List ℕ) → List ℕ → Type 0
TookAll None new bytes = Unit {0}
TookAll (Some old) new bytes = (bytes ≡ old) × (new ≡ Some [])

-- some bytes, at most so many, were taken from the front of what the source had
abbrev pub TookAtMost : Option (List ℕ) → Option (List ℕ) → ℕ → Type 0
TookAtMost old new most = (taken : List ℕ) × (length taken ≤ most) × Consumes old new taken

-- exactly so many bytes were taken from the front of what the source had
abbrev pub TookExactly : Option (List ℕ) → Option (List ℕ) → ℕ → Type 0
TookExactly old new count = (taken : List ℕ) × (length taken ≡ count) × Consumes old new taken

-- a list of bytes was extended by what was taken from the source; nothing taken means the end of input
pub record Extends (left_old left_new : Option (List ℕ)) (old new : List ℕ) (count : ℕ) : Type 0 where
  pub taken : List ℕ
  pub counted : length taken ≡ count
  pub extended : new ≡ old ++ taken
  pub consumed : Consumes left_old left_new taken
  pub at_end : count ≡ 0 → IsAtEnd left_new

-- a prefix of the bytes was appended to what the sink holds
abbrev pub WrotePrefix : Option (List ℕ) → Option (List ℕ) → List ℕ → Type 0
WrotePrefix old new bytes = (front : List ℕ) × (rest : List ℕ) × (bytes ≡ front ++ rest) × Appends old new front
