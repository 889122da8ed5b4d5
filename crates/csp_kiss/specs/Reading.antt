-- What a reader keeps of a stream that it was fed byte by byte, and its answers.
use Rattle.std.specs.Prelude.{◌≡◌, ℕ, ◌+◌, ◌==◌, Bool, true, false, if◌then◌else◌, List, [], ◌∷◌, ◌++◌, take, Option, Some, None, option_to_list}
use Rattle.std.specs.List.{slice_split}
use Rattle.csp_kiss.specs.declared.TheConstants.{FEND, FESC, TFEND, TFESC}
use Rattle.csp_kiss.specs.declared.event.KissEvent.{KissEvent}
use Rattle.csp_kiss.specs.declared.stage.Stage.{Stage}
use Rattle.csp_kiss.specs.declared.stage.Stage.TheVariants.{Outside, Start, Plain, Escape}
use Rattle.csp_kiss.specs.Stream.{is_end, undone, judged}

-- what a reader judges by, where it is, and the bytes of the piece under way with their escapes undone, as far as there is room
pub record Reading : Type 0 where
  -- whether the CRC of a frame covers the header
  pub cover : Bool
  -- how many payload bytes a packet has at most
  pub mtu : ℕ
  pub stage : Stage
  pub plain : List ℕ

-- a reader before the first FEND
abbrev pub unread : (cover : Bool) (mtu : ℕ) → Reading
unread cover mtu = record { cover = cover; mtu = mtu; stage = Outside; plain = [] }

-- how many bytes of a piece are kept: one more than the longest piece has that is a packet, so that a longer piece shows
abbrev pub room : ℕ → ℕ
room mtu = mtu + 9

-- whether what follows these bytes is escaped, where the test says whether they are themselves
unfoldable pub is_escaping : Bool → List ℕ → Bool
is_escaping escaping [] = escaping
is_escaping false (byte ∷ bytes) = is_escaping (byte == FESC) bytes
is_escaping true (byte ∷ bytes) = is_escaping false bytes

-- of the bytes since the last FEND
unfoldable pub reading_in : (cover : Bool) (mtu : ℕ) → List ℕ → Reading
reading_in cover mtu [] = record { cover = cover; mtu = mtu; stage = Start; plain = [] }
reading_in cover mtu (skipped ∷ bytes) =
    record {
      cover = cover;
      mtu = mtu;
      stage = if is_escaping false bytes then Escape else Plain;
      plain = take (room mtu) (undone false bytes);
    }

-- of the parts of a stream: all that counts is the last, and whether a FEND stands before it
unfoldable pub reading_at : (cover : Bool) (mtu : ℕ) → List (List ℕ) → Reading
reading_at cover mtu [] = unread cover mtu
reading_at cover mtu (before ∷ []) = unread cover mtu
reading_at cover mtu (before ∷ part ∷ []) = reading_in cover mtu part
reading_at cover mtu (before ∷ part ∷ next ∷ parts) = reading_at cover mtu (part ∷ next ∷ parts)

-- what a reader keeps of a whole stream
unfoldable pub reading_of : (cover : Bool) (mtu : ℕ) → List ℕ → Reading
reading_of cover mtu stream = reading_at cover mtu (slice_split is_end stream)

-- a reader that was fed this stream and nothing else
abbrev pub HasRead : List ℕ → Reading → Type 0
HasRead stream reading = reading ≡ reading_of reading.cover reading.mtu stream

-- the bytes kept, with others at the end as far as there is room
abbrev pub kept_bytes : (mtu : ℕ) (plain bytes : List ℕ) → List ℕ
kept_bytes mtu plain bytes = take (room mtu) (plain ++ bytes)

-- after the byte that follows a FESC
abbrev pub resolved : (mtu : ℕ) (plain : List ℕ) → ℕ → List ℕ
resolved mtu plain byte = if byte == TFEND then kept_bytes mtu plain (FEND ∷ []) else if byte == TFESC then kept_bytes mtu plain (FESC ∷ []) else plain

-- a reader that goes on to this stage and keeps these bytes
abbrev pub going : Reading → Stage → List ℕ → Reading
going reading stage plain = record { cover = reading.cover; mtu = reading.mtu; stage = stage; plain = plain }

-- after a byte other than FEND, by the stage
abbrev pub continued : Reading → Stage → ℕ → Reading
continued reading Outside byte = going reading Outside reading.plain
continued reading Start byte = going reading Plain reading.plain
continued reading Plain byte = if byte == FESC then going reading Escape reading.plain else going reading Plain (kept_bytes reading.mtu reading.plain (byte ∷ []))
continued reading Escape byte = going reading Plain (resolved reading.mtu reading.plain byte)

-- a reader after one byte more
abbrev pub after : Reading → ℕ → Reading
after reading byte = if byte == FEND then going reading Start [] else continued reading reading.stage byte

-- what the end of a piece gives, by the stage
abbrev pub told : Reading → Stage → Option KissEvent
told reading Outside = None
told reading Start = None
told reading Plain = Some (judged reading.cover reading.mtu reading.plain)
told reading Escape = Some (judged reading.cover reading.mtu reading.plain)

-- what a reader answers to a byte
abbrev pub answer : Reading → ℕ → Option KissEvent
answer reading byte = if byte == FEND then told reading reading.stage else None

-- all that a reader answers to some bytes, one after the other
unfoldable pub answers : Reading → List ℕ → List KissEvent
answers reading [] = []
answers reading (byte ∷ bytes) = option_to_list (answer reading byte) ++ answers (after reading byte) bytes
