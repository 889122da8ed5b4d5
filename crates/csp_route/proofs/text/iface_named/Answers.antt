use Rattle.csp_route.proofs.Rows.{named_by}
use Rattle.csp_route.proofs.text.iface_named.Goals as goal

pub returns-in-Some : goal.returns-in-Some
returns-in-Some c = record { value = cc (named_by c.args.ifaces.now c.args.word.now) }

pub returns-in-None : goal.returns-in-None
returns-in-None c = record { value = cc (named_by c.args.ifaces.now c.args.word.now) }
