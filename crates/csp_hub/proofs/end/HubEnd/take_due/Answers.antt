use Rattle.std.proofs.Common.{sym}
use Rattle.csp_link.proofs.Public.{due_inside, due_there}
use Rattle.csp_hub.proofs.end.HubEnd.take_due.Goals as goal

pub take-held-requires : goal.take-held-requires
take-held-requires c = due_inside c.args.now c.args.self.now.held c.in_ok-place.place (sym c.in_ok-place.ensures.place)

pub returns-clause-found : goal.returns-clause-found
returns-clause-found c = sym (due_there c.args.now c.args.self.now.held c.in_ok-place.place (sym c.in_ok-place.ensures.place) c.take-held.result c.take-held.ensures.held)
