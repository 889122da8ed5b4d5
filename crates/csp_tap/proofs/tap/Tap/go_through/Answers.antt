use Rattle.std.proofs.Common.{◌++◌, sym, subst}
use Rattle.csp_kiss.specs.Reading.{Reading}
use Rattle.csp_tap.specs.Fed.{HasFed}
use Rattle.csp_tap.proofs.Pieces.{fed_through}
use Rattle.csp_tap.proofs.Telling.{tap_at}
use Rattle.csp_tap.proofs.tap.Tap.go_through.Goals as goal

pub returns : goal.returns
returns c = λ cover stream h.
    let at = c.self.inside in
    subst (λ (r : Reading). HasFed cover (stream ++ c.args.bytes.now) (tap_at r at.tale.lines.items at.tale.count at.tale.talks)) (sym c.go_through.ensures)
    (fed_through cover stream c.args.bytes.now at.piece at.tale.lines.items at.tale.count at.tale.talks c.requires (subst (HasFed cover stream) (sym c.self.view_is) h))
