-- What the command `run` owes: the report of a run in threads.
use Rattle.std.specs.Prelude.{ℕ, ◌≡◌, ◌≤◌, List, length, Option, Ok, ⊤}
use Rattle.std.specs.Io.KnownBytes.{Appends}
use Rattle.csp_base.specs.Faults.{Rose}
use Rattle.csp_base.specs.Transfer.{WrotePrefix}
use Rattle.csp_causal.specs.Causal.{IsCausal}
use Rattle.csp_consistent.specs.Threaded.{IsThreaded}
use Rattle.csp_node.specs.Runs.{HasStopped}
use Rattle.csp_record.specs.Record.{PlainRecord}
use Rattle.csp_report.specs.Report.{report}
use Rattle.csp_scene.specs.Judge.{scene_of}
use Rattle.csp_scene.specs.Scene.{PlainScene}
use Rattle.csp_world.specs.declared.limits.TheConstants.{MAX_ENTRIES}
use Rattle.csp_top.specs.Main.{HasBlobPrefix, IsUncountedIfOrdinary}
use Rattle.csp_bench.specs.declared.status.Status.{Status}
use Rattle.csp_bench.specs.declared.status.Status.TheVariants as status
use Rattle.csp_bench.specs.declared.status.TheConstants.{MAX_SCENARIO}

-- the text states a scene, and these bytes are the report of a record that can be one of its run in threads, is causal, and tells why that stopped. Where
-- the run was ordinary, they end with `passed 0`, and where its flows were clear besides, with `stale 0` before that
pub record IsRunReportOf (text bytes : List ℕ) : Type 0 where
  pub scene : PlainScene
  pub run : PlainRecord
  pub stated : scene_of text ≡ Ok scene
  pub threaded : IsThreaded scene run
  pub causal : IsCausal run
  pub stopped : HasStopped scene.until MAX_ENTRIES run
  pub blobs : HasBlobPrefix scene run
  pub reported : bytes ≡ report scene run
  pub ordinary : IsUncountedIfOrdinary scene run bytes

-- the whole report of such a run was written
abbrev pub WroteRun : List ℕ → Option (List ℕ) → Option (List ℕ) → Type 0
WroteRun text old new = (bytes : List ℕ) × IsRunReportOf text bytes × Appends old new bytes

-- a prefix of it was written
abbrev pub WroteRunPart : List ℕ → Option (List ℕ) → Option (List ℕ) → Type 0
WroteRunPart text old new = (bytes : List ℕ) × IsRunReportOf text bytes × WrotePrefix old new bytes

-- nothing hinders a run of this text: it has no more bytes than the limit, it states a scene, and no count of faults rises, neither of reading nor of
-- writing
pub record IsFree (text : List ℕ) (reading_old reading_new writing_old writing_new : ℕ) : Type 0 where
  pub short : length text ≤ MAX_SCENARIO
  pub scene : PlainScene
  pub stated : scene_of text ≡ Ok scene
  pub reading_steady : Rose reading_old reading_new → ⊥
  pub writing_steady : Rose writing_old writing_new → ⊥

-- the answer is Done, and the whole report of a run of the text was written, or it is want of memory
abbrev pub IsRunOrNoMemory : List ℕ → Option (List ℕ) → Option (List ℕ) → Status → Type 0
IsRunOrNoMemory text old new status.Done = WroteRun text old new
IsRunOrNoMemory text old new status.NoMemory = ⊤
IsRunOrNoMemory text old new _ = ⊥
