use Rattle.std.proofs.Common.{sym, subst}
use Rattle.csp_tap.specs.Fed.{HasFed}
use Rattle.csp_tap.proofs.Telling.{fed_on}
use Rattle.csp_tap.proofs.tap.Tap.byte.Goals as goal

pub returns : goal.returns
returns c = λ cover stream h.
    let at = c.self.inside in
    fed_on cover stream c.args.byte at.piece c.go_on.new.self at.tale.lines.items at.tale.count at.tale.talks c.if-byte-eq-FEND.false c.go_on.ensures
    (subst (HasFed cover stream) (sym c.self.view_is) h)
