use Rattle.std.proofs.Common.{sym, ◌∙◌}
use Rattle.std.proofs.lemmas.Bool.{not-true}
use Rattle.csp_ports.proofs.Stilling.{quiet_still}
use Rattle.csp_ports.proofs.ports.Ports.is_quiet.Goals as goal

pub returns-clause-still : goal.returns-clause-still
returns-clause-still c quiet = quiet_still c.args.now c.args.self.now.ports c.rest.ensures (sym c.any_due.ensures ∙ not-true c.any_due.result quiet)
