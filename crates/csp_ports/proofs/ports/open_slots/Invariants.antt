use Rattle.std.proofs.Common.{◌≡◌, replicate, vec_len, vec_capacity}
use Rattle.csp_ports.specs.PlainPorts.{untouched}
use Rattle.csp_ports.proofs.ports.open_slots.Given as goal

abbrev pub invariant-loop : goal.invariant-loop
invariant-loop l = (l.slots.items ≡ replicate l.counter untouched) × (vec_len l.slots ≡ l.counter) × (vec_capacity l.slots ≡ 16)
