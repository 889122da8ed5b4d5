use Rattle.csp_node.proofs.Staying.{still_all}
use Rattle.csp_node.proofs.logs.+make_room.Goals as goal

pub returns-in_err-reserve-clause-still : goal.returns-in_err-reserve-clause-still
returns-in_err-reserve-clause-still t c = rw c.in-Some.ensures.cases.0 (record { plain = c.reserve.ensures.plain; room = c.reserve.ensures.numbers }, still_all c.in-Some.rest.now)
