use Rattle.std.proofs.Common.{◌≡◌, subst, sym}
use Rattle.std.specs.Prelude.{Some}
use Rattle.csp_arena.specs.Cells.{RegionName}
use Rattle.csp_ports.proofs.Keeping.{machines_kept}
use Rattle.csp_ports.proofs.Waiting.{admits_in}
use Rattle.csp_ports.specs.Kept.{IsHoused}
use Rattle.csp_ports.specs.PlainPorts.{PortsAt}
use Rattle.csp_ports.proofs.ports.Ports.admit.Goals as goal

pub invariant_of-self-2 : goal.invariant_of-self-2
invariant_of-self-2 c =
    let region = subst (λ (x : PortsAt). c.args.buffer.region ≡ x.region) (sym c.self.view_is) c.requires.of_it in
    machines_kept c.self.inside c.args.seat c.place.result c.index_mut.result.now (Some c.admit.new.machine) c.place.ensures.value c.place.ensures.inside c.index_mut.ensures.value
    (subst (λ (n : RegionName). IsHoused n c.admit.new.machine) region c.admit.ensures.housed) c.self.invariant

pub returns : goal.returns
returns c = admits_in c.self.inside c.args.self.now c.args.seat c.place.result c.index_mut.result.now c.in-Some.machine c.admit.new.machine c.args.buffer c.args.now c.admit.result c.self.view_is c.place.ensures.value c.place.ensures.inside c.self.invariant c.index_mut.ensures.value (sym c.in-Some.is) c.admit.ensures.admits
