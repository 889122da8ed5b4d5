-- What each command owes.
use Rattle.std.specs.Prelude.{ℕ, ◌≡◌, ◌≢◌, Bool, List, Option, Err, IfSome}
use Rattle.csp_scene.specs.Judge.{scene_of}
use Rattle.csp_scene.specs.declared.refusal.SceneKind.{SceneKind}
use Rattle.csp_top.specs.Gen.{HasReport, IsSummedUpOrNoMemory, WroteSummary, WroteSummaryPart}
use Rattle.csp_bench.specs.Edge.{Edge, WasRead}
use Rattle.csp_bench.specs.Running.{IsPastEntries, IsUnhindered}
use Rattle.csp_top.specs.Main.{IsDoneOrNoMemory, WroteReliably, WroteReport, WrotePart, WroteWhole}
use Rattle.csp_top.specs.Tap.{IsOpenStream, IsTappedOrNoMemory, WroteTap, WroteTapPart}
use Rattle.csp_top.specs.Threads.{IsFree, IsRunOrNoMemory, WroteRun, WroteRunPart}
use Rattle.csp_bench.specs.declared.status.LimitKind.{LimitKind}
use Rattle.csp_bench.specs.declared.status.LimitKind.TheVariants as limit
use Rattle.csp_bench.specs.declared.status.Status.{Status}
use Rattle.csp_bench.specs.declared.status.Status.TheVariants as status
use Rattle.csp_words.specs.declared.grammar.Command.{Command}
use Rattle.csp_words.specs.declared.grammar.Command.TheVariants as command
use Rattle.csp_base.specs.Faults.{Rose}
use Rattle.csp_world.specs.declared.limits.TheConstants.{MAX_ENTRIES}

-- what a command owes that writes a report of the text that it reads: the whole of it, in which places add up and which is reliable, or a prefix, and only of a text that was read to
-- its end; or the refusal of the text. Which bytes are written for a text, whole or in part, differs with the command
pub record OwesReport (Wrote WroteSome : List ℕ → Option (List ℕ) → Option (List ℕ) → Type 0) (old new : Edge) (answer : Status) : Type 0 where
  pub done : answer ≡ status.Done → IfSome old.left (λ text. Wrote text old.written new.written)
  pub places : answer ≡ status.Done → WroteWhole old.written new.written
  pub reliable : answer ≡ status.Done → WroteReliably old.written new.written
  pub read : answer ≡ status.Done → WasRead old.left new.left
  pub part : answer ≡ status.WriteFault → IfSome old.left (λ text. WroteSome text old.written new.written)
  pub part_read : answer ≡ status.WriteFault → WasRead old.left new.left
  pub scene : (line : ℕ) (kind : SceneKind) → answer ≡ status.Scene line kind → IfSome old.left (λ text. scene_of text ≡ Err (record { line = line; kind = kind }))
  pub scene_read : (line : ℕ) (kind : SceneKind) → answer ≡ status.Scene line kind → WasRead old.left new.left

-- `sim`: the report of the run of the text's scene, by its schedule; or the answer that its logs reach the entry limit
pub record OwesSim (old new : Edge) (answer : Status) : Type 0 where
  pub report : OwesReport WroteReport WrotePart old new answer
  pub entries : (number : ℕ) → answer ≡ status.Limit limit.Entries number → (number ≡ MAX_ENTRIES) × IfSome old.left IsPastEntries
  pub entries_read : (number : ℕ) → answer ≡ status.Limit limit.Entries number → WasRead old.left new.left
  pub complete : IfSome old.left (λ text. IsUnhindered text old.reading new.reading old.writing new.writing → IsDoneOrNoMemory text old.written new.written answer)

-- `run`: the report of a run of the text's scene in threads; the entry limit is no answer
pub record OwesRun (old new : Edge) (answer : Status) : Type 0 where
  pub report : OwesReport WroteRun WroteRunPart old new answer
  pub no_entries : (number : ℕ) → answer ≢ status.Limit limit.Entries number
  pub complete : IfSome old.left (λ text. IsFree text old.reading new.reading old.writing new.writing → IsRunOrNoMemory text old.written new.written answer)

-- `gen N`: the summary of the report of the scenario in which so many packets are sent; the source, the scene and the limits are no cause of an answer
pub record OwesGen (packets : ℕ) (old new : Edge) (answer : Status) : Type 0 where
  pub done : answer ≡ status.Done → WroteSummary packets old.written new.written
  pub places : answer ≡ status.Done → WroteWhole old.written new.written
  pub part : answer ≡ status.WriteFault → WroteSummaryPart packets old.written new.written
  pub no_reading : answer ≢ status.ReadFault
  pub no_scene : (line : ℕ) (kind : SceneKind) → answer ≢ status.Scene line kind
  pub no_limit : (kind : LimitKind) (number : ℕ) → answer ≢ status.Limit kind number
  pub report : HasReport packets
  pub complete : (Rose old.writing new.writing → ⊥) → IsSummedUpOrNoMemory packets old.written new.written answer

-- `tap`, and `tap --header` where the CRC covers the header: the text of the stream that it reads, whole or a prefix of it; the scene and the entry limit
-- are no cause of an answer
pub record OwesTap (cover : Bool) (old new : Edge) (answer : Status) : Type 0 where
  pub done : answer ≡ status.Done → IfSome old.left (λ stream. WroteTap cover stream old.written new.written)
  pub read : answer ≡ status.Done → WasRead old.left new.left
  pub part : answer ≡ status.WriteFault → IfSome old.left (λ stream. WroteTapPart cover stream old.written new.written)
  pub part_read : answer ≡ status.WriteFault → WasRead old.left new.left
  pub no_scene : (line : ℕ) (kind : SceneKind) → answer ≢ status.Scene line kind
  pub no_entries : (number : ℕ) → answer ≢ status.Limit limit.Entries number
  pub complete : IfSome old.left (λ stream. IsOpenStream stream old.reading new.reading old.writing new.writing → IsTappedOrNoMemory cover stream old.written new.written answer)

-- what a command owes
abbrev pub Owes : Command → Edge → Edge → Status → Type 0
Owes command.Sim = OwesSim
Owes (command.Run workers) = OwesRun
Owes (command.Gen packets) = OwesGen packets
Owes (command.Tap cover) = OwesTap cover
