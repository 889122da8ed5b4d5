use Rattle.std.proofs.Common.{◌+◌, ◌∙◌, None, ap, arith}
use Rattle.csp_rdp_window.specs.Places.{kept_in}
use Rattle.csp_rdp_window.specs.Receiving.{confirmed, recv_numbers}
use Rattle.csp_rdp_window.proofs.ReceiveLemmas.{first-none, kept_in-moved, same-seen}
use Rattle.csp_rdp_window.proofs.receive.RecvWindow.confirm.Goals as goal

pub returns-clause-state : goal.returns-clause-state
returns-clause-state c =
    let taken = rw (← c.self.view_is) at c.requires.taken in
    let empty = first-none (c.self.inside.cur + 1) c.self.inside.places None (omega arith) taken in
    same-seen c.self.inside.start.0 c.self.inside.window (c.self.inside.cur + 1) _ _
    (ap (kept_in (c.self.inside.cur + 1 + 1)) c.rotate_left.ensures.after ∙ kept_in-moved (c.self.inside.cur + 1) c.self.inside.places None (omega arith) empty)
    ∙ ap confirmed c.self.view_is

pub returns-clause-holds : goal.returns-clause-holds
returns-clause-holds c = ap recv_numbers (returns-clause-state c)
