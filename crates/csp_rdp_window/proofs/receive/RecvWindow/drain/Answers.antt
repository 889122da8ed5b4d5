use Rattle.std.proofs.Common.{◌+◌, ◌∙◌, ap, map}
use Rattle.csp_rdp_window.specs.Numbers.{number_in, times}
use Rattle.csp_rdp_window.specs.Places.{kept_in}
use Rattle.csp_rdp_window.specs.Receiving.{PlainRecv, first_buffer, recv_numbers, without_first}
use Rattle.csp_rdp_window.proofs.ReceiveLemmas.{kept_in-first, kept_in-without, same-seen, times-first}
use Rattle.csp_rdp_window.proofs.receive.RecvWindow.drain.Goals as goal

pub returns-clause-buffer : goal.returns-clause-buffer
returns-clause-buffer c =
    c.take_first.ensures.value ∙ kept_in-first (c.self.inside.cur + 1) c.self.inside.places ∙ ap (λ w. first_buffer w.kept) c.self.view_is

pub returns-clause-state : goal.returns-clause-state
returns-clause-state c =
    let t = c.self.inside.cur + 1 in
    let rest : PlainRecv → PlainRecv = λ w. record w { kept = without_first w.kept } in
    same-seen c.self.inside.start.0 c.self.inside.window c.self.inside.cur _ _
    (ap (kept_in t) c.take_first.ensures.rest ∙ kept_in-without t c.self.inside.places)
    ∙ ap rest c.self.view_is

pub returns-clause-holds : goal.returns-clause-holds
returns-clause-holds c = λ k.
    ap (λ w. times k (recv_numbers w) + times k (number_in c.take_first.result)) (returns-clause-state c)
    ∙ ap (λ o. times k (map (λ e. e.buffer.picture.number) (without_first c.args.self.now.kept)) + times k (number_in o)) (returns-clause-buffer c)
    ∙ times-first k c.args.self.now.kept
