use Rattle.std.proofs.Common.{◌∙◌, ap, arith}
use Rattle.csp_rdp_window.proofs.SendLemmas.{ArePlaced-raised, acked-later}
use Rattle.csp_rdp_window.proofs.send.SendWindow.acked.Goals as goal

pub invariant_of-self : goal.invariant_of-self
invariant_of-self c =
    let seen = c.self-in-Some.view_is ∙ c.mark.ensures.state in
    let nxt = ap (λ w. w.nxt) seen in
    let before = ap (λ w. w.nxt) c.self.view_is in
    let packets = ap (λ w. w.packets) seen in
    let invariant = c.self-in-Some.invariant in
    record {
      low = omega arith;
      ordered = omega (arith, nxt, before, c.if-index-self.true);
      range = invariant.range;
      narrow = invariant.narrow;
      placed = ArePlaced-raised _ c.in-Some.index c.self-in-Some.inside.nxt c.self-in-Some.inside.places invariant.placed
          (rw packets (acked-later c.in-Some.index c.args.self.now.packets));
    }
