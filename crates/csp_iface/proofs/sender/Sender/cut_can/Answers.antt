use Rattle.std.proofs.Common.{subst}
use Rattle.std.specs.List.{AllByRecursion}
use Rattle.csp_iface.specs.Links.{IsFrameOn}
use Rattle.csp_log.specs.declared.places.LinkKind.TheVariants as link
use Rattle.csp_iface.proofs.Frames.{on_bus}
use Rattle.csp_iface.proofs.sender.Sender.cut_can.Goals as goal

pub returns-clause-carried : goal.returns-clause-carried
returns-clause-carried c = subst (AllByRecursion (IsFrameOn link.Can)) c.can_frame.ensures.frame (on_bus c.args.trace _ c.fragments-rest.ensures.carried)
