-- What a call of the program owes: what it writes by what it read, and when each answer comes.
use Rattle.std.specs.Prelude.{ℕ, ◌≡◌, List, ◌++◌, Option, Some, Ok, IfSome, ⊤}
use Rattle.csp_base.specs.Transfer.{WrotePrefix}
use Rattle.std.specs.Io.KnownBytes.{Appends}
use Rattle.csp_blobs.specs.Asking.{TellsOfBlobs}
use Rattle.csp_causal.specs.Causal.{IsCausal}
use Rattle.csp_delivery.specs.Hubs.{DeliverOnHubs}
use Rattle.csp_scene.specs.Scene.{PlainScene}
use Rattle.csp_scene.specs.Judge.{scene_of}
use Rattle.csp_record.specs.Passed.{passed}
use Rattle.csp_record.specs.Record.{PlainRecord}
use Rattle.csp_record.specs.Stale.{stale}
use Rattle.csp_world.specs.Reached.{IsReached}
use Rattle.csp_world.specs.Record.{record_of, sim_record}
use Rattle.csp_world.specs.World.{PlainWorld}
use Rattle.csp_ordinary.specs.Ordinary.{AreSourcesApart, HasNoFlips, HasNoHubs, HasNumbersForAll, IsOrdinary}
use Rattle.csp_peers.specs.Clear.{HasClearFlows}
use Rattle.csp_peers.specs.Window.{LastIsWithinWindow}
use Rattle.csp_prefix.specs.Prefix.{IsReliablePrefix}
use Rattle.csp_told.specs.LastLines.{EndsUnchanged}
use Rattle.csp_told.specs.WithinNumbers.{SendsWithinNumbers}
use Rattle.csp_report.specs.Report.{report}
use Rattle.csp_consistent.specs.Consistent.{IsConsistent}
use Rattle.csp_report.specs.PlacesAddUp.{PlacesAddUp}
use Rattle.csp_report.specs.ReliablePrefix.{HasReliablePrefix, HavePeersTexts, IsUndisturbed, all_told, word_lines}
use Rattle.csp_bench.specs.declared.status.Status.{Status}
use Rattle.csp_bench.specs.declared.status.Status.TheVariants as status

-- what is known of the bytes of a report where its run was ordinary: their last line is `passed 0`. So it is where no line of the scenario flips a bit,
-- on no hub two interfaces sent packets of one source, as it is where no line states a hub, and no bus wore out its numbers, be that by the record or by the
-- report's own lines. Where besides the run's flows are clear the last two lines are `stale 0` and `passed 0`, and what was taken on each reliable
-- connection with a peer is a beginning of what the peer sent, by the record and by the report's own lines; and of blobs whose pieces the peer sent a
-- beginning is told. Of each hub what its interfaces accepted was sent to their nodes by others of it, as often at most as the plan copies it, and as it
-- was sent where the run was ordinary on that hub
pub record EndsAsOrdinary (scene : PlainScene) (run : PlainRecord) (bytes : List ℕ) : Type 0 where
  pub alone : HasNoHubs scene → AreSourcesApart scene run
  pub passes : IsOrdinary scene run → EndsUnchanged bytes
  pub unflipped : HasNoFlips scene → AreSourcesApart scene run → HasNumbersForAll scene run → EndsUnchanged bytes
  pub by_report : HasNoFlips scene → AreSourcesApart scene run → SendsWithinNumbers scene bytes → EndsUnchanged bytes
  pub clear : IsOrdinary scene run → HasClearFlows scene run → IsUndisturbed bytes
  pub clear_by_report : HasNoFlips scene → AreSourcesApart scene run → SendsWithinNumbers scene bytes → HasClearFlows scene run → IsUndisturbed bytes
  pub prefix : IsOrdinary scene run → HasClearFlows scene run → IsReliablePrefix run
  pub texts : IsOrdinary scene run → HasClearFlows scene run → HavePeersTexts (all_told (word_lines bytes))
  pub blobs : IsOrdinary scene run → HasClearFlows scene run → TellsOfBlobs scene run
  pub delivers : DeliverOnHubs scene run

-- the same, unfolded only where it is needed
unfoldable pub IsUncountedIfOrdinary : PlainScene → PlainRecord → List ℕ → Type 0
IsUncountedIfOrdinary scene run bytes = EndsAsOrdinary scene run bytes

-- where a record counts no stale copy and no changed packet: of blobs whose pieces were sent on a reliable connection an application that collects on its
-- peer's slot tells a beginning, each once and whole, and refuses nothing; and where the record is causal, a beginning of the blobs of the steps that
-- follow the `connect` of the sender
abbrev pub HasBlobPrefix : PlainScene → PlainRecord → Type 0
HasBlobPrefix scene run = stale run ≡ 0 → passed run ≡ 0 → TellsOfBlobs scene run

-- what is known of a scene's record so far, at any time of a run: it is consistent with the scene, and causal; and where it counts no stale copy and no changed
-- packet, what was taken on each reliable connection with a peer is a beginning of what the peer sent, and what the last turns handed to such
-- connections is within their senders' windows; and it has the prefix of blobs
pub record IsReliableSoFar (scene : PlainScene) (run : PlainRecord) : Type 0 where
  pub consistent : IsConsistent scene run
  pub causal : IsCausal run
  pub prefix : stale run ≡ 0 → passed run ≡ 0 → IsReliablePrefix run
  pub window : stale run ≡ 0 → passed run ≡ 0 → LastIsWithinWindow scene run
  pub blobs : HasBlobPrefix scene run

-- so it is in each world that turns and ticks make of the scene's opening, in whatever order
unfoldable pub StaysReliable : PlainScene → Type 0
StaysReliable scene = (w : PlainWorld) → IsReached scene w → IsReliableSoFar scene (record_of w)

-- the text states a scene, whose run ends before its logs are full; its record is consistent with the scene, and these bytes are its report. In whatever
-- order its turns and ticks had come, the record was causal and reliable after each of them, and so is this one. Where the run was ordinary, they end with
-- `passed 0`, and where its flows were clear besides, with `stale 0` before that
pub record IsReportOf (text bytes : List ℕ) : Type 0 where
  pub scene : PlainScene
  pub run : PlainRecord
  pub stated : scene_of text ≡ Ok scene
  pub ran : sim_record scene ≡ Some run
  pub consistent : IsConsistent scene run
  pub causal : IsCausal run
  pub stays : StaysReliable scene
  pub blobs : HasBlobPrefix scene run
  pub reported : bytes ≡ report scene run
  pub ordinary : IsUncountedIfOrdinary scene run bytes

-- the whole report of the text was written
abbrev pub WroteReport : List ℕ → Option (List ℕ) → Option (List ℕ) → Type 0
WroteReport text old new = (bytes : List ℕ) × IsReportOf text bytes × Appends old new bytes

-- a prefix of the report of the text was written
abbrev pub WrotePart : List ℕ → Option (List ℕ) → Option (List ℕ) → Type 0
WrotePart text old new = (bytes : List ℕ) × IsReportOf text bytes × WrotePrefix old new bytes

-- in what was written, each node's line has six places that add up to its number of buffers
abbrev pub WroteWhole : Option (List ℕ) → Option (List ℕ) → Type 0
WroteWhole old new = IfSome old (λ before. (bytes : List ℕ) × (new ≡ Some (before ++ bytes)) × PlacesAddUp bytes)

-- in what was written, where it tells of no stale copy and of no changed packet, what was taken on each reliable connection with a peer is the
-- beginning of what the peer sent
abbrev pub WroteReliably : Option (List ℕ) → Option (List ℕ) → Type 0
WroteReliably old new = IfSome old (λ before. (bytes : List ℕ) × (new ≡ Some (before ++ bytes)) × HasReliablePrefix bytes)

-- the answer is Done, and the whole report of the text was written, or it is want of memory
abbrev pub IsDoneOrNoMemory : List ℕ → Option (List ℕ) → Option (List ℕ) → Status → Type 0
IsDoneOrNoMemory text old new status.Done = WroteReport text old new
IsDoneOrNoMemory text old new status.NoMemory = ⊤
IsDoneOrNoMemory text old new _ = ⊥
