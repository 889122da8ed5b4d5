use Rattle.std.proofs.Common.{◌+◌, ap, arith, length}
use Rattle.csp_rdp_window.proofs.ReceiveLemmas.{kept_in-few}
use Rattle.csp_rdp_window.proofs.receive.RecvWindow.capacity.Goals as goal

pub returns-clause-few : goal.returns-clause-few
returns-clause-few c =
    let seen = ap (λ w. length w.kept) c.self.view_is in
    let few = kept_in-few (c.self.inside.cur + 1) c.self.inside.places in
    omega (arith, seen, few)
