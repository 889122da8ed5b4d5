use Rattle.std.proofs.Common.{◌∙◌}
use Rattle.csp_tap.specs.Pieces.{tap_of}
use Rattle.csp_tap.proofs.Telling.{fed_piece}
use Rattle.csp_tap.proofs.tap.Tap.end_piece.Goals as goal

pub returns : goal.returns
returns c = λ cover stream h.
    let at = c.self.inside in
    fed_piece cover stream c.args.self.now (tap_of at.piece at.tale) c.start.new.self (c.self.view_is ∙ c.in_ok-tell_piece.ensures) c.start.ensures h
