use Rattle.std.proofs.Common.{◌-◌, ◌^◌, ◌≤◌, length, ap, subst, sym, ◌∙◌}
use Rattle.csp_base.specs.declared.limits.TheConstants.{MAX_PAYLOAD}
use Rattle.csp_buffer.specs.PlainBuffer.{PlainBuffer}
use Rattle.csp_conn.specs.PlainConns.{IsThere}
use Rattle.csp_ports.proofs.Counting.{far_machine_at}
use Rattle.csp_ports.proofs.Tasking.{admit_back, admitted_later, admitted_now}
use Rattle.csp_ports.specs.PlainPorts.{PortsAt, machine_at, stalls_of}
use Rattle.csp_ports.specs.Steps.{has_room}
use Rattle.csp_ports.proofs.ports.Ports.send.Goals as goal

pub admit-requires-clause-countable : goal.admit-requires-clause-countable
admit-requires-clause-countable c = far_machine_at (2 ^ 32 - 2) c.args.self.now.ports c.args.seat c.requires.countable

pub stall-requires-clause-there : goal.stall-requires-clause-there
stall-requires-clause-there c =
    let back = admit_back (has_room (machine_at c.args.self.now.ports c.args.seat)) c.admit.result c.in-Err.buffer c.args.self.now c.admit.new.self c.args.seat c.args.packet c.args.now c.in-Err.is c.admit.ensures in
    subst (λ (x : PortsAt). IsThere x.ports.conns c.args.seat) (sym back.1) c.requires.there

pub stall-requires-clause-of_it : goal.stall-requires-clause-of_it
stall-requires-clause-of_it c =
    let back = admit_back (has_room (machine_at c.args.self.now.ports c.args.seat)) c.admit.result c.in-Err.buffer c.args.self.now c.admit.new.self c.args.seat c.args.packet c.args.now c.in-Err.is c.admit.ensures in
    ap (λ (b : PlainBuffer). b.region) back.0 ∙ (c.requires.of_it ∙ ap (λ (x : PortsAt). x.region) (sym back.1))

pub stall-requires-clause-short : goal.stall-requires-clause-short
stall-requires-clause-short c =
    let back = admit_back (has_room (machine_at c.args.self.now.ports c.args.seat)) c.admit.result c.in-Err.buffer c.args.self.now c.admit.new.self c.args.seat c.args.packet c.args.now c.in-Err.is c.admit.ensures in
    subst (λ (b : PlainBuffer). length b.picture.payload ≤ MAX_PAYLOAD - 9) (sym back.0) c.requires.short

pub stall-requires-clause-none : goal.stall-requires-clause-none
stall-requires-clause-none c =
    let back = admit_back (has_room (machine_at c.args.self.now.ports c.args.seat)) c.admit.result c.in-Err.buffer c.args.self.now c.admit.new.self c.args.seat c.args.packet c.args.now c.in-Err.is c.admit.ensures in
    ap (λ (x : PortsAt). stalls_of c.args.seat.app x.ports.slots) back.1 ∙ c.requires.first

pub returns-in-Err-clause-ports : goal.returns-in-Err-clause-ports
returns-in-Err-clause-ports c =
    admitted_later (has_room (machine_at c.args.self.now.ports c.args.seat)) c.admit.result c.in-Err.buffer c.args.self.now c.admit.new.self c.stall.new.self c.args.seat c.args.packet c.args.now c.in-Err.is c.admit.ensures c.stall.ensures

pub returns-in_default-clause-ports : goal.returns-in_default-clause-ports
returns-in_default-clause-ports c =
    admitted_now (has_room (machine_at c.args.self.now.ports c.args.seat)) c.admit.result c.in_default.field-0 c.args.self.now c.admit.new.self c.args.seat c.args.packet c.args.now c.in_default.is c.admit.ensures
