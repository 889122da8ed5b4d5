-- What the command `gen` owes: the summary of the report of a generated scenario.
use Rattle.std.specs.Prelude.{ℕ, ◌≡◌, List, Option, Some, Ok, ⊤}
use Rattle.std.specs.Io.KnownBytes.{Appends}
use Rattle.csp_base.specs.Transfer.{WrotePrefix}
use Rattle.csp_gen.specs.GenText.{gen_text}
use Rattle.csp_record.specs.Record.{PlainRecord}
use Rattle.csp_report.specs.Summary.{summary}
use Rattle.csp_scene.specs.Judge.{scene_of}
use Rattle.csp_scene.specs.Scene.{PlainScene}
use Rattle.csp_world.specs.Record.{sim_record}
use Rattle.csp_top.specs.Main.{IsReportOf}
use Rattle.csp_bench.specs.declared.status.Status.{Status}
use Rattle.csp_bench.specs.declared.status.Status.TheVariants as status

-- these bytes are the summary of the report of the scenario in which so many packets are sent
pub record IsSummaryOf (packets : ℕ) (bytes : List ℕ) : Type 0 where
  pub report : List ℕ
  pub reported : IsReportOf (gen_text packets) report
  pub summed : bytes ≡ summary packets report

-- the whole summary was written
abbrev pub WroteSummary : ℕ → Option (List ℕ) → Option (List ℕ) → Type 0
WroteSummary packets old new = (bytes : List ℕ) × IsSummaryOf packets bytes × Appends old new bytes

-- a prefix of it was written
abbrev pub WroteSummaryPart : ℕ → Option (List ℕ) → Option (List ℕ) → Type 0
WroteSummaryPart packets old new = (bytes : List ℕ) × IsSummaryOf packets bytes × WrotePrefix old new bytes

-- the generated scenario has a report: its text states a scene, whose run doesn't stop at the entry limit
pub record HasReport (packets : ℕ) : Type 0 where
  pub scene : PlainScene
  pub run : PlainRecord
  pub stated : scene_of (gen_text packets) ≡ Ok scene
  pub ran : sim_record scene ≡ Some run

-- the answer is Done, and the whole summary was written, or it is want of memory
abbrev pub IsSummedUpOrNoMemory : ℕ → Option (List ℕ) → Option (List ℕ) → Status → Type 0
IsSummedUpOrNoMemory packets old new status.Done = WroteSummary packets old new
IsSummedUpOrNoMemory packets old new status.NoMemory = ⊤
IsSummedUpOrNoMemory packets old new _ = ⊥
