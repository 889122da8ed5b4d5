-- What a reader makes of a frame.
use Rattle.std.specs.Prelude.{◌≡◌, ◌≢◌, ℕ, ◌^◌, ◌<◌, ◌≤◌, ⊤, List, [], ◌∷◌, length}
use Rattle.std.specs.List.{fold}
use Rattle.csp_kiss.specs.declared.event.KissEvent.{KissEvent}
use Rattle.csp_kiss.specs.declared.event.KissEvent.TheVariants.{Packet, TooLong, Short, BadCrc}
use Rattle.csp_kiss.specs.declared.stage.Stage.{Stage}
use Rattle.csp_kiss.specs.declared.stage.Stage.TheVariants.{Outside, Start, Plain, Escape}
use Rattle.csp_kiss.specs.GoingOn.{packet_of, read_on}
use Rattle.csp_kiss.specs.Reading.{Reading, after, answers, going}

-- where no piece is under way: before the first FEND, or just after a FEND
abbrev pub IsBetween : Stage → Type 0
IsBetween Outside = ⊤
IsBetween Start = ⊤
IsBetween Plain = ⊥
IsBetween Escape = ⊥

-- a reader that has nothing begun
abbrev pub HasNothingBegun : Reading → Type 0
HasNothingBegun reading = IsBetween reading.stage

-- a reader that has nothing begun and takes such a packet: its header is a word, its payload no longer than the reader's mtu
pub record IsReadyFor (reading : Reading) (header : ℕ) (payload : List ℕ) : Type 0 where
  pub between : HasNothingBegun reading
  pub word : header < 2 ^ 32
  pub fits : length payload ≤ reading.mtu

-- how many pieces an event refuses
abbrev pub refused_by : KissEvent → ℕ
refused_by (Packet _ _) = 0
refused_by TooLong = 1
refused_by Short = 1
refused_by (BadCrc _ _) = 1

-- a reader makes of some bytes just this event: fed them one by one it answers nothing else and has nothing begun after them, and
-- reading on in them it comes to that alone, with no byte left
pub record MakesJust (reading : Reading) (bytes : List ℕ) (event : KissEvent) : Type 0 where
  pub answered : answers reading bytes ≡ event ∷ []
  pub kept : fold after reading bytes ≡ going reading Start []
  pub read : read_on reading bytes ≡ record { refused = refused_by event; packet = packet_of event; reading = going reading Start []; left = [] }

-- a reader makes of some bytes just a wrong CRC
abbrev pub MakesWrong : Reading → List ℕ → Type 0
MakesWrong reading bytes = (found wanted : ℕ) × (found ≢ wanted) × MakesJust reading bytes (BadCrc found wanted)
