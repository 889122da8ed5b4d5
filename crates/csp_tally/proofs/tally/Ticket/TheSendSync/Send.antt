-- What it owns is no token of one thread.
use denote.Param.Send.{IsSend}
use Rattle.csp_tally.specs.contracts.tally.Ticket.{the_row}
use Rattle.csp_tally.proofs.Steps.{ticket_keyless}

pub send : IsSend the_row
send = record { owned = λ d vs. ((λ vss. (tt, ((λ uss. (tt, tt)), tt))), ticket_keyless d.name d.number); leaving = λ k f vs. tt }
