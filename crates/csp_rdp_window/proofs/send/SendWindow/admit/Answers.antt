use Rattle.std.proofs.Common.{add-zero, ◌≡◌, ◌∙◌, ◌+◌, ◌++◌, ◌∷◌, [], Some, None, ap, drop, get_or, arith}
use Rattle.csp_rdp_window.specs.Numbers.{times}
use Rattle.csp_rdp_window.specs.Places.{held_in}
use Rattle.csp_rdp_window.specs.Sending.{admitted, send_numbers}
use Rattle.csp_rdp_window.proofs.PlaceLemmas.{held_in-append}
use Rattle.csp_rdp_window.proofs.SendLemmas.{ArePlaced-admitted, first-empty, held_in-rest, same-seen, times-admitted}
use Rattle.csp_rdp_window.proofs.send.SendWindow.admit.Goals as goal

pub push-requires : goal.push-requires
push-requires c =
    let drained = rw (← c.self.view_is) at c.requires.drained in
    record {
      all = omega arith;
      first = first-empty c.self.inside.una c.self.inside.nxt c.self.inside.places None c.self.invariant.placed (omega arith)
          (omega (arith, c.self.invariant.narrow)) drained;
    }

pub invariant_of-self : goal.invariant_of-self
invariant_of-self c =
    let drained = rw (← c.self.view_is) at c.requires.drained in
    let empty : get_or c.self.inside.places 0 None ≡ None =
    first-empty c.self.inside.una c.self.inside.nxt c.self.inside.places None c.self.invariant.placed (omega arith) (omega (arith, c.self.invariant.narrow)) drained in
    let nxt = ap (λ w. w.nxt) c.self.view_is in
    let ordered = c.self.invariant.ordered in
    record {
      low = c.self.invariant.low;
      ordered = omega arith;
      range = omega (arith, c.requires.countable, nxt);
      narrow = c.self.invariant.narrow;
      placed = rw (c.push.ensures, c.fresh.ensures)
          (ArePlaced-admitted c.self.inside.una c.self.inside.nxt c.self.inside.places c.args.buffer c.self.invariant.placed (omega arith) ordered empty);
    }

pub returns-clause-ok : goal.returns-clause-ok
returns-clause-ok c =
    let drained = rw (← c.self.view_is) at c.requires.drained in
    let empty : get_or c.self.inside.places 0 None ≡ None =
    first-empty c.self.inside.una c.self.inside.nxt c.self.inside.places None c.self.invariant.placed (omega arith) (omega (arith, c.self.invariant.narrow)) drained in
    same-seen c.self.inside.start.0 c.self.inside.window c.self.inside.una (c.self.inside.nxt + 1) _ _
    (ap held_in c.push.ensures ∙ held_in-append (drop 1 c.self.inside.places) (Some c.fresh.result ∷ [])
    ∙ ap (λ l. l ++ c.fresh.result ∷ []) (held_in-rest c.self.inside.places None empty)
    ∙ ap (λ p. held_in c.self.inside.places ++ p ∷ []) c.fresh.ensures)
    ∙ ap (admitted c.args.buffer) c.self.view_is

pub returns-clause-holds : goal.returns-clause-holds
returns-clause-holds c = λ k.
    ap (λ w. times k (send_numbers w) + 0) (returns-clause-ok c) ∙ add-zero _ ∙ times-admitted k c.args.buffer c.args.self.now
