-- What the program says on standard error.
use Rattle.std.specs.Prelude.{ℕ, List, codes}
use Rattle.csp_bench.specs.Said.{said_by}
use Rattle.csp_bench.specs.declared.status.Status.{Status}

-- its line for each answer, which begins with its name
abbrev pub said_of : Status → List ℕ
said_of answer = said_by (codes "csptrace") answer
