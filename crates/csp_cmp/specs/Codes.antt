-- the codes of requests
use Rattle.std.specs.Prelude.{ℕ, ◌==◌, if◌then◌else◌, Option, Some, None}
use Rattle.csp_cmp.specs.declared.code.Code.{Code}
use Rattle.csp_cmp.specs.declared.code.Code.TheVariants.{Ident, RouteSet, Stats, Peek, Poke, Clock}

-- the number of a code
abbrev pub code_number : Code → ℕ
code_number Ident = 1
code_number RouteSet = 2
code_number Stats = 3
code_number Peek = 4
code_number Poke = 5
code_number Clock = 6

-- the code of a number, where it has one
abbrev pub code_of : ℕ → Option Code
code_of n =
    if n == 1 then Some Ident
    else if n == 2 then Some RouteSet
    else if n == 3 then Some Stats
    else if n == 4 then Some Peek
    else if n == 5 then Some Poke
    else if n == 6 then Some Clock
    else None
