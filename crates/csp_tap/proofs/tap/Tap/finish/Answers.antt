use Rattle.std.proofs.Common.{sym, subst}
use Rattle.csp_tap.specs.Fed.{HasFed}
use Rattle.csp_tap.specs.Pieces.{tap_of}
use Rattle.csp_tap.proofs.Telling.{if_ok, whole_text}
use Rattle.csp_tap.proofs.tap.Tap.finish.Goals as goal

pub returns : goal.returns
returns c = if_ok c.finish.result (λ bytes is cover stream h.
    whole_text cover stream (tap_of c.self.inside.piece c.self.inside.tale) bytes.items is (subst (HasFed cover stream) (sym c.self.view_is) h))
    c.finish.ensures
