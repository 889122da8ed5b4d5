-- What the report tells of blobs: after the payloads that were taken on a connection stand the blobs that the application collected there, and then why it refused pieces, each in order of time.
use Rattle.std.specs.Prelude.{ℕ, ◌==◌, ◌+◌, ◌&&◌, Bool, true, false, if◌then◌else◌, Option, None, Some, List, [], ◌∷◌, ◌++◌, map, codes}
use Rattle.std.specs.List.{filter_map, enumerate_from}
use Rattle.std.specs.Fmt.{decimal}
use Rattle.std.specs.Int.{w32, to_be_bytes}
use Rattle.hex.specs.Hex.{encode_lower}
use Rattle.csp_log.specs.declared.event.Event.{Event}
use Rattle.csp_log.specs.declared.event.Event.TheVariants as event
use Rattle.csp_sfp.specs.declared.errors.SfpError.{SfpError}
use Rattle.csp_sfp.specs.declared.errors.SfpError.TheVariants.{Short, NoData, BadTotal, WrongTotal, WrongOffset, TooMuch}
use Rattle.csp_report.specs.Lines.{Line, conn_words}
use Rattle.csp_report.specs.declared.blobs.Blob.{Blob}

-- the word of why a piece was refused
abbrev pub word_of_bad_piece : SfpError → List ℕ
word_of_bad_piece Short = codes "short"
word_of_bad_piece NoData = codes "nodata"
word_of_bad_piece (BadTotal total) = codes "badtotal"
word_of_bad_piece (WrongTotal kept found) = codes "wrongtotal"
word_of_bad_piece (WrongOffset expected found) = codes "wrongoffset"
word_of_bad_piece (TooMuch total) = codes "toomuch"

-- a CRC as a word: its eight hexadecimal digits, in lower case
abbrev pub crc_word : ℕ → List ℕ
crc_word crc = encode_lower (to_be_bytes w32 crc)

-- whether an event tells of blobs
abbrev pub is_of_blobs : Event → Bool
is_of_blobs (event.BlobTook s o len crc) = true
is_of_blobs (event.BlobRefused s o why) = true
is_of_blobs _ = false

-- the blob that an event tells to be whole on the connection of this slot and this ordinal
abbrev pub blob_told : ℕ → ℕ → Event → Option Blob
blob_told slot ordinal (event.BlobTook s o len crc) = if s == slot && o == ordinal then Some (record { len = len; crc = crc }) else None
blob_told slot ordinal _ = None

-- why the piece was refused that an event tells of, on that connection
abbrev pub refusal_told : ℕ → ℕ → Event → Option SfpError
refusal_told slot ordinal (event.BlobRefused s o why) = if s == slot && o == ordinal then Some why else None
refusal_told slot ordinal _ = None

-- the blobs that these events tell of on a connection
abbrev pub blobs_on : ℕ → ℕ → List Event → List Blob
blobs_on slot ordinal events = filter_map (blob_told slot ordinal) events

-- why pieces were refused that these events tell of, on a connection
abbrev pub refusals_on : ℕ → ℕ → List Event → List SfpError
refusals_on slot ordinal events = filter_map (refusal_told slot ordinal) events

-- `blob NODE APP SLOT ORD I LEN CRC`
abbrev pub blob_line : List ℕ → List ℕ → ℕ → ℕ → ℕ → Blob → Line
blob_line node app slot ordinal number blob = conn_words (codes "blob") node app slot ordinal ++ decimal number ∷ decimal blob.len ∷ crc_word blob.crc ∷ []

-- the lines of these blobs, with I from 1
abbrev pub blob_lines : List ℕ → List ℕ → ℕ → ℕ → List Blob → List Line
blob_lines node app slot ordinal blobs = map (λ blob. blob_line node app slot ordinal (blob.0 + 1) blob.1) (enumerate_from 0 blobs)

-- `badblob NODE APP SLOT ORD WHY`
abbrev pub badblob_line : List ℕ → List ℕ → ℕ → ℕ → SfpError → Line
badblob_line node app slot ordinal reason = conn_words (codes "badblob") node app slot ordinal ++ word_of_bad_piece reason ∷ []

-- what these events tell of a connection: its blobs, and then its refusals
abbrev pub collected_lines : List ℕ → List ℕ → ℕ → ℕ → List Event → List Line
collected_lines node app slot ordinal events =
    blob_lines node app slot ordinal (blobs_on slot ordinal events)
    ++ map (badblob_line node app slot ordinal) (refusals_on slot ordinal events)
