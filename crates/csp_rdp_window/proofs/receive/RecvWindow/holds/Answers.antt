use Rattle.std.proofs.Common.{◌+◌, ◌∙◌, ap, sym}
use Rattle.std.specs.Prelude.{nat_lt}
use Rattle.csp_rdp_window.specs.Numbers.{times}
use Rattle.csp_rdp_window.specs.Receiving.{recv_numbers}
use Rattle.csp_rdp_window.proofs.ReceiveLemmas.{kept_in-numbers}
use Rattle.csp_rdp_window.proofs.receive.RecvWindow.holds.Goals as goal

pub returns : goal.returns
returns c =
    c.has_buffer.ensures
    ∙ ap (λ ns. nat_lt 0 (times c.args.number ns)) (sym (kept_in-numbers (c.self.inside.cur + 1) c.self.inside.places))
    ∙ ap (λ w. nat_lt 0 (times c.args.number (recv_numbers w))) c.self.view_is
