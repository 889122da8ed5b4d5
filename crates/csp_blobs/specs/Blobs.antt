-- What an application's record tells of blobs: what a collector makes of the payloads that were taken; and what of that follows from the reliable prefix.
use Rattle.std.specs.Prelude.{◌≡◌, ◌<◌, ℕ, Some, None, List, [], length, map, slice_get}
use Rattle.csp_base.specs.Seat.{seat}
use Rattle.csp_base.specs.declared.seat.Seat.{Seat}
use Rattle.csp_app.specs.Collecting.{collector_for}
use Rattle.csp_app.specs.PlainStep.{PlainStep}
use Rattle.csp_crc.specs.Crc.{crc_of}
use Rattle.csp_log.specs.PlainLog.{all_events}
use Rattle.csp_log.specs.declared.entry.Entry.{Entry}
use Rattle.csp_log.specs.declared.event.Event.{Event}
use Rattle.csp_base.specs.declared.limits.TheConstants.{SLOTS}
use Rattle.csp_record.specs.Payloads.{took}
use Rattle.csp_record.specs.Record.{PlainRecord}
use Rattle.csp_record.specs.declared.connections.Opening.{Opening}
use Rattle.csp_log.specs.declared.who.Who.TheVariants as who
use Rattle.csp_scene.specs.Scene.{PlainApp, PlainNode, PlainScene}
use Rattle.csp_sfp.specs.Collecting.{CanAllBeCut, Cut, all_pieces, blobs_of, collected, refusals}
use Rattle.csp_sfp.specs.Gathering.{nothing}
use Rattle.csp_sfp.specs.declared.errors.SfpError.{SfpError}
use Rattle.csp_consistent.specs.Reading.{entries_of}
use Rattle.csp_prefix.specs.Apps.{IsAppLog}
use Rattle.csp_prefix.specs.Prefix.{IsBeginning, IsOfFlow, IsOpened, sent_on, took_on}
use Rattle.csp_report.specs.Blobs.{blobs_on, refusals_on}

-- events tell of just these blobs on the connection of this slot and this ordinal, each by its length and its CRC, and of pieces refused there for just
-- these reasons
pub record Tells (slot ordinal : ℕ) (events : List Event) (blobs : List (List ℕ)) (reasons : List SfpError) : Type 0 where
  pub told : blobs_on slot ordinal events ≡ map (λ bytes. record { len = length bytes; crc = crc_of bytes }) blobs
  pub refused : refusals_on slot ordinal events ≡ reasons

-- ---- by the log of an application

-- what its log tells of blobs on a connection: where its script collects on the slot, what a new collector makes of the payloads that were taken on the
-- connection; and else nothing
pub record IsCollected (number : ℕ) (steps : List PlainStep) (es : List Entry) : Type 0 where
  pub collects : (slot ordinal : ℕ) → slot < SLOTS → collector_for steps slot ≡ Some nothing
      → Tells slot ordinal (all_events es) (collected nothing (took (seat number slot) ordinal es)) (refusals nothing (took (seat number slot) ordinal es))
  pub others : (slot ordinal : ℕ) → collector_for steps slot ≡ None → Tells slot ordinal (all_events es) [] []

-- each log of an application tells of blobs what its slots' collectors make of the payloads that were taken
abbrev pub AreCollected : Type 0
AreCollected = (number : ℕ) (steps : List PlainStep) (es : List Entry) → IsAppLog number steps es → IsCollected number steps es

-- ---- in a record

-- the application of this seat of a node collects on its slot
pub record CollectsAt (scene : PlainScene) (node : ℕ) (seat : Seat) : Type 0 where
  pub home : PlainNode
  pub there : slice_get scene.nodes node ≡ Some home
  pub own : PlainApp
  pub of_it : slice_get home.apps seat.app ≡ Some own
  pub collects : collector_for own.steps seat.slot ≡ Some nothing

-- an application's record tells of a beginning of these blobs on a connection, each once and whole, and of no refusal: of those that a new collector
-- makes of the payloads that were taken there
pub record TellsBeginning (r : PlainRecord) (node app : ℕ) (x : Opening) (blobs : List (List ℕ)) : Type 0 where
  pub beginning : IsBeginning (collected nothing (took_on r node app x)) blobs
  pub tells : Tells x.slot x.ordinal (all_events (entries_of r (who.App node app))) (collected nothing (took_on r node app x)) []

-- where what was sent on the peer's connection is a beginning of the pieces of some blobs, in order, a beginning of these blobs is told; and none where
-- the peer's connection never became open
pub record HasPeersBlobs (r : PlainRecord) (node app : ℕ) (x : Opening) (peer : ℕ × ℕ) : Type 0 where
  pub prefix : (other : ℕ) (y : Opening) (cuts : List Cut) → IsOfFlow r peer other y → CanAllBeCut cuts → IsBeginning (sent_on r peer.0 other y) (all_pieces cuts)
      → TellsBeginning r node app x (blobs_of cuts)
  pub never : ((other : ℕ) (y : Opening) → IsOfFlow r peer other y → ⊥) → TellsBeginning r node app x []

-- the prefix of blobs: of each reliable connection with a peer, on whose slot its application collects, a beginning of the blobs is told whose pieces the
-- peer sent
abbrev pub IsBlobPrefix : PlainScene → PlainRecord → Type 0
IsBlobPrefix scene r =
    (node app nth : ℕ) (x : Opening) (peer : ℕ × ℕ) → IsOpened r node app x → x.nth ≡ Some nth → x.peer ≡ Some peer → CollectsAt scene node (seat app x.slot)
    → HasPeersBlobs r node app x peer
