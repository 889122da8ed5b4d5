use Rattle.std.proofs.Common.{◌+◌, ◌∙◌, sym, ap, arith}
use Rattle.std.specs.Prelude.{is_some}
use Rattle.csp_rdp_window.specs.Receiving.{next_buffer}
use Rattle.csp_rdp_window.proofs.ReceiveLemmas.{next-is}
use Rattle.csp_rdp_window.proofs.receive.RecvWindow.has_next.Goals as goal

pub returns : goal.returns
returns c =
    c.is_some.ensures ∙ ap is_some (sym (next-is (c.self.inside.cur + 1) c.self.inside.places c.index-self-0.result (omega arith)))
    ∙ ap (λ w. is_some (next_buffer w)) c.self.view_is
