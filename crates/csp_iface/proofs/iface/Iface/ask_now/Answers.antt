use Rattle.std.proofs.Common.{ap, ◌≡◌}
use Rattle.csp_iface.specs.PlainIface.{IfaceAt}
use Rattle.csp_iface.proofs.iface.Iface.ask_now.Goals as goal
use Rattle.csp_iface.proofs.iface.Iface.ask_now.Goals.{in-Rest, in-Return, in-Deliver, in-Take, in-Transmit, in-Fetch, in-Receive}

-- its region is that of the buffer that is to be given back
region : (c : goal.After-plan-1) → c.self.inside.back.region ≡ c.args.self.now.region
region c = ap (λ (a : IfaceAt). a.region) c.self.view_is

pub returns-clause-of_it : goal.returns-clause-of_it
returns-clause-of_it c = elim c.match-plan.branch [
  | in-Rest w ↦ rw w.op-is tt
  | in-Return w ↦ rw (w.op-is, ← region c) (w.given-op.ensures.of_it c.self.inside.back.region w.take.ensures.of_it)
  | in-Deliver w ↦ rw (w.op-is, ← region c) (w.delivered-op.ensures.of_it c.self.inside.back.region (rw c.self.invariant.accepted_of_it at w.take-in-Deliver.ensures.of_it))
  | in-Take w ↦ rw w.op-is tt
  | in-Transmit w ↦ rw w.op-is (w.transmitted-op.ensures.of_it c.args.self.now.region)
  | in-Fetch w ↦ rw w.op-is tt
  | in-Receive w ↦ rw w.op-is tt
]
