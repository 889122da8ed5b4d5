use Rattle.csp_iface.proofs.Frames.{identified}
use Rattle.csp_iface.proofs.iface.Iface.catch.Goals as goal

pub is_for-requires : goal.is_for-requires
is_for-requires c = rw c.frame.ensures (identified c.args.self.now.iface.kind c.args.frame c.requires.carried)
