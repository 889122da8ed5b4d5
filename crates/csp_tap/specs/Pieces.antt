-- The piece under way, and what it is found to be, in the words of KISS streams.
use Rattle.std.specs.Prelude.{ℕ, ◌≢◌, List, All, Option, Some, None}
use Rattle.std.specs.List.{fold}
use Rattle.csp_kiss.specs.Reading.{Reading, continued}
use Rattle.csp_kiss.specs.declared.TheConstants.{FEND}
use Rattle.csp_kiss.specs.declared.event.KissEvent.{KissEvent}
use Rattle.csp_kiss.specs.declared.event.KissEvent.TheVariants as event
use Rattle.csp_kiss.specs.declared.stage.Stage as kiss
use Rattle.csp_kiss.specs.declared.stage.Stage.TheVariants as at
use Rattle.csp_tap.specs.declared.piece.Finding.{Finding}
use Rattle.csp_tap.specs.declared.piece.Finding.TheVariants.{Packet, TooLong, Short, BadCrc}
use Rattle.csp_tap.specs.declared.piece.Stage.{Stage}
use Rattle.csp_tap.specs.declared.piece.Stage.TheVariants.{Outside, Start, Plain, Escape}
use Rattle.csp_tap.specs.declared.tap.Tale.{Tale}
use Rattle.csp_tap.specs.Fed.{PlainTap, telling}

-- where a reader of the stream is
abbrev pub stage_of : Stage → kiss.Stage
stage_of Outside = at.Outside
stage_of Start = at.Start
stage_of Plain = at.Plain
stage_of Escape = at.Escape

-- what a reader answers at the end of the piece
abbrev pub event_of : Finding → KissEvent
event_of (Packet header payload) = event.Packet header (record { items = payload.now })
event_of TooLong = event.TooLong
event_of Short = event.Short
event_of (BadCrc found wanted) = event.BadCrc found wanted

-- a reader after one byte more that ends no piece
abbrev pub gone_on : Reading → ℕ → Reading
gone_on reading byte = continued reading reading.stage byte

-- the same after some bytes
abbrev pub gone_through : Reading → List ℕ → Reading
gone_through reading bytes = fold gone_on reading bytes

-- no byte of these ends a piece
abbrev pub HasNoEnd : List ℕ → Type 0
HasNoEnd bytes = All (λ byte. byte ≢ FEND) bytes

-- a tap with this reader, that has told this
abbrev pub tap_of : Reading → Tale → PlainTap
tap_of reading tale = record { reading = reading; lines = tale.lines.items; count = tale.count; talks = tale.talks }

-- with an event more told, where there is one
abbrev pub told_with : Option KissEvent → PlainTap → PlainTap
told_with None tap = tap
told_with (Some event) tap = telling event tap
