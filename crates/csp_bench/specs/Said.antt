-- What a program says on standard error, and its exit status.
use Rattle.std.specs.Prelude.{ℕ, List, [], ◌∷◌, ◌++◌, codes}
use Rattle.std.specs.Fmt.{decimal}
use Rattle.csp_scene.specs.declared.refusal.SceneKind.{SceneKind}
use Rattle.csp_scene.specs.declared.refusal.SceneKind.TheVariants as kind
use Rattle.csp_bench.specs.declared.status.LimitKind.{LimitKind}
use Rattle.csp_bench.specs.declared.status.LimitKind.TheVariants as limit
use Rattle.csp_bench.specs.declared.status.Status.{Status}
use Rattle.csp_bench.specs.declared.status.Status.TheVariants as status

-- the exit status: 0 to 6, in the order of the answers
abbrev pub code_of : Status → ℕ
code_of status.Done = 0
code_of status.NoMemory = 1
code_of status.Words = 2
code_of status.ReadFault = 3
code_of status.WriteFault = 4
code_of (status.Scene line what) = 5
code_of (status.Limit which number) = 6

-- the word of what is wrong with a line
abbrev pub word_of_kind : SceneKind → List ℕ
word_of_kind kind.Byte = codes "Byte"
word_of_kind kind.Long = codes "Long"
word_of_kind kind.Word = codes "Word"
word_of_kind kind.Place = codes "Place"
word_of_kind kind.Count = codes "Count"
word_of_kind kind.Choice = codes "Choice"
word_of_kind kind.Name = codes "Name"
word_of_kind kind.Number = codes "Number"
word_of_kind kind.Unknown = codes "Unknown"
word_of_kind kind.Twice = codes "Twice"
word_of_kind kind.Full = codes "Full"
word_of_kind kind.Missing = codes "Missing"

-- the word of a limit
abbrev pub word_of_limit : LimitKind → List ℕ
word_of_limit limit.Bytes = codes "Bytes"
word_of_limit limit.Entries = codes "Entries"

-- a line of a program: its name, what it says, and the line feed that ends it
abbrev pub line_by : (program said : List ℕ) → List ℕ
line_by program said = program ++ codes ": " ++ said ++ 10 ∷ []

-- the line of each answer; nothing where all was written
abbrev pub said_by : (program : List ℕ) → Status → List ℕ
said_by program status.Done = []
said_by program status.NoMemory = line_by program (codes "no memory")
said_by program status.Words = line_by program (codes "bad words")
said_by program status.ReadFault = line_by program (codes "read fault")
said_by program status.WriteFault = line_by program (codes "write fault")
said_by program (status.Scene line what) = line_by program (codes "line " ++ decimal line ++ codes ": " ++ word_of_kind what)
said_by program (status.Limit which number) = line_by program (codes "limit " ++ word_of_limit which ++ codes " " ++ decimal number)
