-- What a call owes: what it writes by what it read, and when each answer comes.
use Rattle.std.specs.Prelude.{ℕ, ◌≡◌, List, Option, Some, None, Ok, Err, IfSome, ⊤}
use Rattle.std.specs.Io.KnownBytes.{Appends}
use Rattle.csp_base.specs.Transfer.{WrotePrefix}
use Rattle.csp_bench.specs.Edge.{Edge, WasRead}
use Rattle.csp_bench.specs.Running.{IsPastEntries, IsUnhindered}
use Rattle.csp_bench.specs.Statuses.{status_of}
use Rattle.csp_bench.specs.declared.status.LimitKind.TheVariants as limit
use Rattle.csp_bench.specs.declared.status.Status.{Status}
use Rattle.csp_bench.specs.declared.status.Status.TheVariants as status
use Rattle.csp_exports.specs.Frames.{exported}
use Rattle.csp_exports.specs.Unused.{unused}
use Rattle.csp_picture.specs.Picture.{picture}
use Rattle.csp_record.specs.Record.{PlainRecord}
use Rattle.csp_scene.specs.Judge.{scene_of}
use Rattle.csp_scene.specs.Scene.{PlainScene}
use Rattle.csp_scene.specs.declared.refusal.SceneKind.{SceneKind}
use Rattle.csp_timeline.specs.Timeline.{timeline}
use Rattle.csp_world.specs.Record.{sim_record}
use Rattle.csp_world.specs.declared.limits.TheConstants.{MAX_ENTRIES}
use Rattle.csp_trace.specs.Modes.{asked_of}
use Rattle.csp_trace.specs.Reread.{IsReadIfKiss}
use Rattle.csp_trace.specs.declared.asked.Asked.{Asked}
use Rattle.csp_trace.specs.declared.asked.Asked.TheVariants as asked
use Rattle.csp_trace.specs.declared.mode.Mode.{Mode}
use Rattle.csp_trace.specs.declared.tracing.Untold.{Untold}
use Rattle.csp_trace.specs.declared.tracing.Untold.TheVariants as untold

-- the text of what is asked, of a scene and the record of its run: one row a mode
abbrev pub told : Asked → PlainScene → PlainRecord → List ℕ
told (asked.Export which name end) scene run = exported which name.link end run
told asked.Timeline scene run = timeline scene run
told (asked.Picture window) scene run = picture scene run window
told asked.Unused scene run = unused scene run

-- the text states a scene, whose run ends before its logs are full, and these bytes are what the mode asks of it; where they are those of an end of a KISS
-- link, they are read again as the packets that it sent
pub record IsTraceOf (mode : Mode) (text bytes : List ℕ) : Type 0 where
  pub scene : PlainScene
  pub run : PlainRecord
  pub what : Asked
  pub stated : scene_of text ≡ Ok scene
  pub named : asked_of mode scene ≡ Some what
  pub ran : sim_record scene ≡ Some run
  pub shown : bytes ≡ told what scene run
  pub read : IsReadIfKiss what scene run bytes

-- the text states a scene that lacks what the mode names
pub record IsUnnamed (mode : Mode) (text : List ℕ) : Type 0 where
  pub scene : PlainScene
  pub stated : scene_of text ≡ Ok scene
  pub lacking : asked_of mode scene ≡ None

-- the status of each refusal: names that the scene lacks are bad words
abbrev pub status_without : Untold → Status
status_without (untold.Text why) = status_of why
status_without untold.Names = status.Words

-- the whole of it was written
abbrev pub WroteTrace : Mode → List ℕ → Option (List ℕ) → Option (List ℕ) → Type 0
WroteTrace mode text old new = (bytes : List ℕ) × IsTraceOf mode text bytes × Appends old new bytes

-- a prefix of it was written
abbrev pub WroteTracePart : Mode → List ℕ → Option (List ℕ) → Option (List ℕ) → Type 0
WroteTracePart mode text old new = (bytes : List ℕ) × IsTraceOf mode text bytes × WrotePrefix old new bytes

-- the answer is Done, and the whole was written, or the scene lacks what is named, or it is want of memory
abbrev pub IsTracedOrNoMemory : Mode → List ℕ → Option (List ℕ) → Option (List ℕ) → Status → Type 0
IsTracedOrNoMemory mode text old new status.Done = WroteTrace mode text old new
IsTracedOrNoMemory mode text old new status.Words = IsUnnamed mode text
IsTracedOrNoMemory mode text old new status.NoMemory = ⊤
IsTracedOrNoMemory mode text old new _ = ⊥

-- what a mode owes: the whole of its text, or a prefix, and only of a source that was read to its end; or the refusal of that text, or of the names
pub record Owes (mode : Mode) (old new : Edge) (answer : Status) : Type 0 where
  pub done : answer ≡ status.Done → IfSome old.left (λ text. WroteTrace mode text old.written new.written)
  pub read : answer ≡ status.Done → WasRead old.left new.left
  pub part : answer ≡ status.WriteFault → IfSome old.left (λ text. WroteTracePart mode text old.written new.written)
  pub part_read : answer ≡ status.WriteFault → WasRead old.left new.left
  pub names : answer ≡ status.Words → IfSome old.left (IsUnnamed mode)
  pub names_read : answer ≡ status.Words → WasRead old.left new.left
  pub scene : (line : ℕ) (kind : SceneKind) → answer ≡ status.Scene line kind → IfSome old.left (λ text. scene_of text ≡ Err (record { line = line; kind = kind }))
  pub scene_read : (line : ℕ) (kind : SceneKind) → answer ≡ status.Scene line kind → WasRead old.left new.left
  pub entries : (number : ℕ) → answer ≡ status.Limit limit.Entries number → (number ≡ MAX_ENTRIES) × IfSome old.left IsPastEntries
  pub entries_read : (number : ℕ) → answer ≡ status.Limit limit.Entries number → WasRead old.left new.left
  pub complete : IfSome old.left (λ text. IsUnhindered text old.reading new.reading old.writing new.writing → IsTracedOrNoMemory mode text old.written new.written answer)
