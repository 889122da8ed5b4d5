use Rattle.std.proofs.Common.{◌+◌, ◌-◌, ◌∙◌, ap, sym, arith}
use Rattle.csp_rdp_window.specs.Receiving.{is_kept}
use Rattle.csp_rdp_window.proofs.ReceiveLemmas.{awaited-bounds, kept-at}
use Rattle.csp_rdp_window.proofs.receive.RecvWindow.keeps.Goals as goal

pub returns : goal.returns
returns c =
    let bounds = awaited-bounds c.args.self.now c.args.index c.requires in
    let cur = ap (λ w. w.cur) c.self.view_is in
    let window = ap (λ w. w.window) c.self.view_is in
    c.is_some.ensures
    ∙ sym (kept-at (c.self.inside.cur + 1) (c.args.index - c.self.inside.cur - 1) c.args.index c.self.inside.places c.index-self-index.result
    (omega (arith, bounds.low, cur)) (omega (arith, bounds.low, bounds.high, cur, window, c.self.invariant.narrow)))
    ∙ ap (λ w. is_kept w c.args.index) c.self.view_is
