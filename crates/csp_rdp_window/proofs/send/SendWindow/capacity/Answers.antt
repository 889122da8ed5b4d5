use Rattle.std.proofs.Common.{ap, arith, length}
use Rattle.csp_rdp_window.proofs.PlaceLemmas.{held_in-few}
use Rattle.csp_rdp_window.proofs.send.SendWindow.capacity.Goals as goal

pub returns-clause-few : goal.returns-clause-few
returns-clause-few c =
    let seen = ap (λ w. length w.packets) c.self.view_is in
    let few = held_in-few c.self.inside.places in
    omega (arith, seen, few)
