use Rattle.std.proofs.Common.{List, length, map, sym, subst, ap, ◌∙◌}
use Rattle.std.specs.Global.{Vec}
use Rattle.csp_opening.proofs.Leaving.{all_leave, as_many}
use Rattle.csp_topology.specs.Opened.{AreParties}
use Rattle.csp_opening.specs.declared.nodes.Node.{Node}
use Rattle.csp_topology.specs.declared.wire.Wire.{Wire}
use Rattle.csp_opening.proofs.opening.open_members.Goals as goal

pub open_unposted-requires : goal.open_unposted-requires
open_unposted-requires g c =
    subst (λ k. AreParties k c.args.parties.items) (sym (ap (λ (xs : List Node). length xs) c.deref.ensures.value ∙ as_many c.args.nodes.now (map (λ (ws : Vec Wire). ws.items) c.args.wires.now) c.in_ok-nodes.nodes.items c.in_ok-nodes.ensures.nodes))
    c.requires.parties

pub leave_nodes-requires : goal.leave_nodes-requires
leave_nodes-requires g c = all_leave c.args.nodes.now (map (λ (ws : Vec Wire). ws.items) c.args.wires.now) c.in_ok-nodes.nodes.items c.in_ok-nodes.ensures.nodes
