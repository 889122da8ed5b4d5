use Rattle.std.proofs.Common.{arith, refl}
use Rattle.std.proofs.lemmas.List.Elements.{All-nil, All-replicate}
use Rattle.csp_ports.specs.Kept.{IsKept, IsOwed}
use Rattle.csp_ports.specs.PlainPorts.{untouched}
use Rattle.csp_ports.proofs.Holding.{none-bound, wishes-none}
use Rattle.csp_ports.proofs.Stalling.{one_in}
use Rattle.csp_ports.proofs.Wishing.{weighs_none}
use Rattle.csp_ports.proofs.ports.Ports.open.Goals as goal

pub invariant_of-result : goal.invariant_of-result
invariant_of-result c = record {
  few = rw c.new.ensures c.requires;
  apps = rw c.new.ensures refl;
  room = omega (arith, c.in_ok-owed.ensures.room);
  owners = λ port. none-bound c.new-2.result port c.new.result.apps c.new-2.ensures;
  owed = rw (c.in_ok-owed.ensures.none) (All-nil (IsOwed c.new.result.apps));
  due = λ app.
      let none = wishes-none 16 app in
      rw (c.in_ok-owed.ensures.none, c.in_ok-slots.ensures.slots) omega (arith, none);
  slots = rw c.in_ok-slots.ensures.slots refl;
  kept = rw c.in_ok-slots.ensures.slots (All-replicate (IsKept c.args.region.name) 16 untouched (record { housed = tt; waits = tt }));
  alone = λ app.
      let none = weighs_none one_in 16 app untouched refl in
      rw c.in_ok-slots.ensures.slots omega (arith, none);
}
