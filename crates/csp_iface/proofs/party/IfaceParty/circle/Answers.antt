use Rattle.csp_iface.proofs.Circling.{goes_round}
use Rattle.csp_iface.proofs.party.IfaceParty.circle.Goals as goal

pub returns-clause-looks : goal.returns-clause-looks
returns-clause-looks c = rw c.circle_now.ensures (goes_round c.args.self.now c.args._now c.requires.ready)
