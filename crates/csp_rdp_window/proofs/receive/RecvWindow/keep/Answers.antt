use Rattle.std.proofs.Common.{◌≡◌, ◌+◌, ◌-◌, ◌<◌, ◌∙◌, None, ap, sym, arith, length, false, get_or}
use Rattle.std.specs.List.{slice_set}
use Rattle.csp_rdp_window.specs.Places.{kept_in}
use Rattle.csp_rdp_window.specs.Receiving.{is_kept, with_kept}
use Rattle.csp_rdp_window.proofs.ReceiveLemmas.{awaited-bounds, kept-at, kept_with-at, none-from, offered-kept, same-seen}
use Rattle.csp_rdp_window.proofs.receive.RecvWindow.keep.Goals as goal

pub put-requires : goal.put-requires
put-requires c =
    let bounds = awaited-bounds c.args.self.now c.args.index c.requires in
    let cur = ap (λ w. w.cur) c.self.view_is in
    let window = ap (λ w. w.window) c.self.view_is in
    none-from _ (sym (kept-at (c.self.inside.cur + 1) (c.args.index - c.self.inside.cur - 1) c.args.index c.self.inside.places c.index-self-index.result
    (omega (arith, bounds.low, cur)) (omega (arith, bounds.low, bounds.high, cur, window, c.self.invariant.narrow)))
    ∙ ap (λ w. is_kept w c.args.index) c.self.view_is ∙ sym c.keeps.ensures ∙ c.if-keeps.false)

pub returns-clause-state : goal.returns-clause-state
returns-clause-state c =
    let bounds = awaited-bounds c.args.self.now c.args.index c.requires in
    let cur = ap (λ w. w.cur) c.self.view_is in
    let window = ap (λ w. w.window) c.self.view_is in
    let kept : is_kept c.args.self.now c.args.index ≡ false = sym c.keeps.ensures ∙ c.if-keeps.false in
    let at = c.args.index - c.self.inside.cur - 1 in
    let is : c.args.index ≡ c.self.inside.cur + 1 + at = omega (arith, bounds.low, cur) in
    let few : at < length c.self.inside.places = omega (arith, bounds.low, bounds.high, cur, window, c.self.invariant.narrow) in
    let empty : get_or c.self.inside.places at c.index-self-index.result ≡ None =
    none-from _ (sym (kept-at (c.self.inside.cur + 1) at c.args.index c.self.inside.places c.index-self-index.result is few)
    ∙ ap (λ w. is_kept w c.args.index) c.self.view_is ∙ kept) in
    same-seen c.self.inside.start.0 c.self.inside.window c.self.inside.cur _ _
    (ap (λ x. kept_in (c.self.inside.cur + 1) (slice_set c.self.inside.places at x)) c.put.ensures
    ∙ kept_with-at (c.self.inside.cur + 1) at c.args.index c.args.buffer c.self.inside.places c.index-self-index.result is few empty)
    ∙ ap (with_kept c.args.index c.args.buffer) c.self.view_is
    ∙ sym (offered-kept c.args.index c.args.buffer c.args.self.now c.requires kept)
