use Rattle.std.proofs.Common.{None, ◌-◌, ◌^◌, subst, sym}
use Rattle.csp_ports.proofs.Counting.{far_machine_at}
use Rattle.csp_ports.proofs.Slots.{machine_unstalled}
use Rattle.csp_ports.proofs.Waiting.{none_left, settled_err}
use Rattle.csp_ports.specs.PlainPorts.{PortsAt, machine_at}
use Rattle.csp_rdp.specs.Counts.{IsFar}
use Rattle.csp_rdp.specs.Machine.{PlainRdp}
use Rattle.csp_ports.proofs.ports.Ports.settle.Goals as goal

pub admit-requires-clause-countable : goal.admit-requires-clause-countable
admit-requires-clause-countable c =
    let n = 2 ^ 32 - 2 in
    let p = c.args.self.now.ports in
    subst (λ (x : PortsAt). IsFar n (machine_at x.ports c.args.seat)) (sym c.take_stalled.ensures.ports)
    (subst (λ (r : PlainRdp). IsFar n r) (sym (machine_unstalled p c.args.seat None c.args.seat)) (far_machine_at n p c.args.seat c.requires.countable))

pub stall-requires-clause-none : goal.stall-requires-clause-none
stall-requires-clause-none c =
    none_left c.take_stalled.new.self c.admit.new.self c.args.seat c.in-Some.packet c.in-Err.packet c.args.now _ c.in-Some.ensures.none c.in-Err.ensures

pub returns-in-Err : goal.returns-in-Err
returns-in-Err c = record {
  ports =
      settled_err c.args.self.now c.take_stalled.new.self c.admit.new.self c.stall.new.self c.args.seat c.in-Some.packet c.in-Err.packet c.args.now c.take_stalled.ensures.ports c.in-Some.ensures.stalled c.in-Err.ensures c.stall.ensures;
}
