use denote.Param.Send.{IsSync}
use Rattle.csp_arena.specs.contracts.strip.Shell as C

pub sync : IsSync C.the_row
sync = record { shared = λ e b o κ. tt }
