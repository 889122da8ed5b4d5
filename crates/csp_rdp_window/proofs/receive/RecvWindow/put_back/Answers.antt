use Rattle.std.proofs.Common.{◌+◌, ◌∙◌, None, ap, arith}
use Rattle.std.specs.List.{slice_set}
use Rattle.csp_rdp_window.specs.Places.{kept_in}
use Rattle.csp_rdp_window.specs.Receiving.{with_kept}
use Rattle.csp_rdp_window.proofs.ReceiveLemmas.{first-none, kept_with-at, same-seen}
use Rattle.csp_rdp_window.proofs.receive.RecvWindow.put_back.Goals as goal

pub returns-clause-state : goal.returns-clause-state
returns-clause-state c =
    let taken = rw (← c.self.view_is) at c.requires.taken in
    let empty = first-none (c.self.inside.cur + 1) c.self.inside.places None (omega arith) taken in
    same-seen c.self.inside.start.0 c.self.inside.window c.self.inside.cur _ _
    (ap (λ x. kept_in (c.self.inside.cur + 1) (slice_set c.self.inside.places 0 x)) c.put.ensures
    ∙ kept_with-at (c.self.inside.cur + 1) 0 (c.self.inside.cur + 1) c.args.buffer c.self.inside.places None (omega arith) (omega arith) empty)
    ∙ ap (λ w. with_kept (w.cur + 1) c.args.buffer w) c.self.view_is
