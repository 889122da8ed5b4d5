-- What the command `tap` owes: the text of the stream that it reads.
use Rattle.std.specs.Prelude.{ℕ, ◌≤◌, Bool, List, length, Option, ⊤}
use Rattle.std.specs.Io.KnownBytes.{Appends}
use Rattle.csp_base.specs.Faults.{Rose}
use Rattle.csp_base.specs.Transfer.{WrotePrefix}
use Rattle.csp_base.specs.declared.limits.TheConstants.{MAX_PAYLOAD}
use Rattle.csp_kiss.specs.Stream.{events}
use Rattle.csp_tap.specs.Text.{tap_text}
use Rattle.csp_bench.specs.declared.status.Status.{Status}
use Rattle.csp_bench.specs.declared.status.Status.TheVariants as status
use Rattle.csp_bench.specs.declared.status.TheConstants.{MAX_SCENARIO}

-- the text of a stream's events, where a packet has any payload that a packet may have
abbrev pub text_of_stream : (cover : Bool) (stream : List ℕ) → List ℕ
text_of_stream cover stream = tap_text (events cover MAX_PAYLOAD stream)

-- the whole text was written
abbrev pub WroteTap : (cover : Bool) (stream : List ℕ) → Option (List ℕ) → Option (List ℕ) → Type 0
WroteTap cover stream old new = Appends old new (text_of_stream cover stream)

-- a prefix of it was written
abbrev pub WroteTapPart : (cover : Bool) (stream : List ℕ) → Option (List ℕ) → Option (List ℕ) → Type 0
WroteTapPart cover stream old new = WrotePrefix old new (text_of_stream cover stream)

-- nothing hinders it: the stream has no more bytes than the limit, and no count of faults rises, neither of reading nor of writing
pub record IsOpenStream (stream : List ℕ) (reading_old reading_new writing_old writing_new : ℕ) : Type 0 where
  pub short : length stream ≤ MAX_SCENARIO
  pub reading_steady : Rose reading_old reading_new → ⊥
  pub writing_steady : Rose writing_old writing_new → ⊥

-- the answer is Done, and the whole text was written, or it is want of memory
abbrev pub IsTappedOrNoMemory : (cover : Bool) (stream : List ℕ) → Option (List ℕ) → Option (List ℕ) → Status → Type 0
IsTappedOrNoMemory cover stream old new status.Done = WroteTap cover stream old new
IsTappedOrNoMemory cover stream old new status.NoMemory = ⊤
IsTappedOrNoMemory cover stream old new _ = ⊥
