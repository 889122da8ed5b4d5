use Rattle.std.proofs.Common.{[], ◌∷◌, List, length, ap, ◌∙◌, length-append, arith}
use Rattle.std.specs.Prelude.{replicate}
use Rattle.csp_hub.specs.PlainHub.{PlainEnd}
use Rattle.csp_hub.specs.Telling.{copies_held}
use Rattle.csp_link.specs.Copies.{held_until}
use Rattle.csp_link.specs.declared.held.Held.{Held}
use Rattle.csp_link.proofs.Public.{one_more}
use Rattle.csp_log.specs.PlainSpares.{PlainSpares}
use Rattle.csp_log.specs.declared.frame.Frame.{Frame}
use Rattle.csp_hub.proofs.end.HubEnd.hear.Goals as goal

pub loop-preserved : goal.loop-preserved
loop-preserved c =
    let h = c.loop.invariant in
    let one : Held = held_until c.args.due c.args.frame.now in
    let before : PlainEnd = c.args.self.now in
    let boxes = ap (λ (s : PlainSpares). s.boxes) c.copy-copy.ensures.stock in
    record {
      held = c.add.ensures
          ∙ ap (λ (e : PlainEnd). copies_held (held_until c.args.due c.copy-copy.result ∷ []) e) h.held
          ∙ ap (λ (f : Frame). copies_held (held_until c.args.due f ∷ []) (copies_held (replicate c.loop.counter one) before)) c.copy-copy.ensures.frame
          ∙ ap (λ (hs : List Held). record before { held = hs }) (one_more before.held c.loop.counter one);
      long = omega (arith, h.long, ap (λ (e : PlainEnd). length e.held) c.add.ensures, length-append c.loop.self.held (held_until c.args.due c.copy-copy.result ∷ []));
      boxes = omega (arith, h.boxes, boxes, c.requires.stock, c.loop-test.true);
      room = ap (λ (s : PlainSpares). s.room) c.copy-copy.ensures.stock ∙ h.room;
    }
