use Rattle.std.proofs.Common.{◌+◌, ◌∙◌, sym, ap, arith}
use Rattle.std.specs.List.{slice_set}
use Rattle.csp_rdp_window.specs.Places.{kept_in}
use Rattle.csp_rdp_window.specs.Receiving.{next_buffer, without_next}
use Rattle.csp_rdp_window.proofs.ReceiveLemmas.{next-gone, next-is, next-taken, same-seen}
use Rattle.csp_rdp_window.proofs.receive.RecvWindow.next.Goals as goal

pub returns-clause-buffer : goal.returns-clause-buffer
returns-clause-buffer c =
    c.take.ensures.value ∙ sym (next-is (c.self.inside.cur + 1) c.self.inside.places c.index-self-0.result (omega arith)) ∙ ap next_buffer c.self.view_is

pub returns-clause-state : goal.returns-clause-state
returns-clause-state c =
    same-seen c.self.inside.start.0 c.self.inside.window c.self.inside.cur _ _
    (ap (λ x. kept_in (c.self.inside.cur + 1) (slice_set c.self.inside.places 0 x)) c.take.ensures.after ∙ next-taken (c.self.inside.cur + 1) c.self.inside.places)
    ∙ ap without_next c.self.view_is

pub returns-clause-taken : goal.returns-clause-taken
returns-clause-taken c = rw c.take.ensures.after (next-gone (c.self.inside.cur + 1) c.self.inside.places)
