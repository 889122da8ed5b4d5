-- Pieces gathered to a blob.
use Rattle.std.specs.Prelude.{ℕ, ◌+◌, ◌==◌, ◌&&◌, nat_lt, nat_le, Bool, true, false, List, [], ◌∷◌, ◌++◌, length, Option, None, Some, Result, Ok, Err}
use Rattle.csp_sfp.specs.Trailer.{data_of, offset_of, total_of}
use Rattle.csp_sfp.specs.declared.collector.SfpAnswer.{SfpAnswer}
use Rattle.csp_sfp.specs.declared.collector.SfpAnswer.TheVariants.{Part, Whole}
use Rattle.csp_sfp.specs.declared.errors.SfpError.{SfpError}
use Rattle.csp_sfp.specs.declared.errors.SfpError.TheVariants.{Short, NoData, BadTotal, WrongTotal, WrongOffset, TooMuch}
use Rattle.csp_sfp.specs.declared.trailer.TheConstants.{MAX_BLOB, TRAILER_LEN}

-- a collector: how long the blob under way will be, if one is; and its bytes so far, or else those of the blob that was whole last
pub record Gathering : Type 0 where
  pub total : Option ℕ
  pub bytes : List ℕ

-- nothing was gathered
abbrev pub nothing : Gathering
nothing = record { total = None; bytes = [] }

-- bytes are of a blob under way where it has a length; else none are
abbrev pub begun : Option ℕ → List ℕ → List ℕ
begun None bytes = []
begun (Some total) bytes = bytes

-- what was gathered of the blob under way
abbrev pub gathered : Gathering → List ℕ
gathered g = begun g.total g.bytes

infixl 10 ◌>>=◌
-- the first error ends the judgement
abbrev pub ◌>>=◌ : {A B : Type 0} → Result A SfpError → (A → Result B SfpError) → Result B SfpError
◌>>=◌ (Ok a) f = f a
◌>>=◌ (Err e) f = Err e

-- what must hold, or else this error
abbrev pub demand : Bool → SfpError → Result (Unit {0}) SfpError
demand true error = Ok tt
demand false error = Err error

-- a piece belongs to the blob under way, if one is: their totals are the same
abbrev pub of_one_blob : Option ℕ → ℕ → Result (Unit {0}) SfpError
of_one_blob None total = Ok tt
of_one_blob (Some kept) total = demand (kept == total) (WrongTotal kept total)

-- a payload judged, in the order of the errors: it comes to the data that it adds
abbrev pub judged : Gathering → List ℕ → Result (List ℕ) SfpError
judged g payload = do
  _ ← demand (nat_le TRAILER_LEN (length payload)) Short
  _ ← demand (nat_lt TRAILER_LEN (length payload)) NoData
  _ ← demand (nat_lt 0 (total_of payload) && nat_le (total_of payload) MAX_BLOB) (BadTotal (total_of payload))
  _ ← of_one_blob g.total (total_of payload)
  _ ← demand (offset_of payload == length (gathered g)) (WrongOffset (length (gathered g)) (offset_of payload))
  _ ← demand (nat_le (offset_of payload + length (data_of payload)) (total_of payload)) (TooMuch (total_of payload))
  Ok (data_of payload)

-- a blob of this length is under way with these bytes, or they are all of it
abbrev pub with_bytes : (is_whole : Bool) → ℕ → List ℕ → Gathering
with_bytes true total bytes = record { total = None; bytes = bytes }
with_bytes false total bytes = record { total = Some total; bytes = bytes }

-- a blob is whole once as many bytes were gathered as it has
abbrev pub grown : ℕ → List ℕ → Gathering
grown total bytes = with_bytes (length bytes == total) total bytes

-- what a judged payload comes to: its data is gathered; a refusal drops the blob under way
abbrev pub taken_up : Result (List ℕ) SfpError → Gathering → ℕ → Gathering
taken_up (Ok part) g total = grown total (gathered g ++ part)
taken_up (Err error) g total = nothing

-- a collector after a payload
abbrev pub after : Gathering → List ℕ → Gathering
after g payload = taken_up (judged g payload) g (total_of payload)

-- a blob is whole, or a part of it
abbrev pub whole_or_part : (is_whole : Bool) → SfpAnswer
whole_or_part true = Whole
whole_or_part false = Part

-- what a judged payload is answered
abbrev pub judged_answer : Result (List ℕ) SfpError → Gathering → ℕ → Result SfpAnswer SfpError
judged_answer (Ok part) g total = Ok (whole_or_part (length (gathered g ++ part) == total))
judged_answer (Err error) g total = Err error

-- what a collector answers to a payload
abbrev pub answer : Gathering → List ℕ → Result SfpAnswer SfpError
answer g payload = judged_answer (judged g payload) g (total_of payload)

-- a collector after these payloads, one after the other
abbrev pub fed : Gathering → List (List ℕ) → Gathering
fed g [] = g
fed g (payload ∷ payloads) = fed (after g payload) payloads

-- what it answers to them
abbrev pub answers : Gathering → List (List ℕ) → List (Result SfpAnswer SfpError)
answers g [] = []
answers g (payload ∷ payloads) = answer g payload ∷ answers (after g payload) payloads
