use Rattle.std.proofs.Common.{Option, sym, ap, ◌∙◌}
use Rattle.std.specs.Option.{option_map}
use Rattle.csp_kiss.specs.Reading.{told}
use Rattle.csp_kiss.specs.declared.event.KissEvent.{KissEvent}
use Rattle.csp_tap.specs.Fed.{PlainTap}
use Rattle.csp_tap.specs.Pieces.{event_of, tap_of, told_with}
use Rattle.csp_tap.proofs.Telling.{on_ok}
use Rattle.csp_tap.proofs.tap.Tap.tell_piece.Goals as goal

pub returns-in-Some : goal.returns-in-Some
returns-in-Some c =
    let at = c.self.inside in
    let found = sym (ap (option_map event_of) c.in-Some.is) ∙ c.finding.ensures in
    on_ok c.tell.result
    (λ tells. tells at.piece
    ∙ ap (λ (o : Option KissEvent). told_with o (tap_of at.piece at.tale)) found
    ∙ ap (λ (t : PlainTap). told_with (told t.reading t.reading.stage) t) c.self.view_is)
    c.tell.ensures
