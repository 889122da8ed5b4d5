use Rattle.std.proofs.Common.{◌+◌, ◌++◌, [], ◌∷◌, List, length, ap, ◌∙◌, length-append, arith}
use Rattle.std.specs.Prelude.{replicate}
use Rattle.csp_link.specs.Copies.{held_until}
use Rattle.csp_link.specs.declared.held.Held.{Held}
use Rattle.csp_log.specs.PlainSpares.{PlainSpares}
use Rattle.csp_log.specs.declared.frame.Frame.{Frame}
use Rattle.csp_link.proofs.Copied.{one_more, all_held}
use Rattle.csp_link.proofs.held.HeldFrames.hold.Goals as goal

pub loop-preserved : goal.loop-preserved
loop-preserved c =
    let h = c.loop.invariant in
    let due = c.args.now + c.from.result in
    let one = held_until due c.damaged-frame.result in (
      c.add.ensures ∙ ap (λ (hs : List Held). hs ++ held_until due c.copy-copy.result ∷ []) h.0
          ∙ ap (λ (f : Frame). (c.args.self.now ++ replicate c.loop.counter one) ++ held_until due f ∷ []) c.copy-copy.ensures.frame
          ∙ one_more c.args.self.now c.loop.counter one,
      omega (arith, h.1, ap length c.add.ensures, length-append c.loop.self (held_until due c.copy-copy.result ∷ [])),
      (let taken = ap (λ (s : PlainSpares). s.boxes) c.copy-copy.ensures.stock in omega (arith, h.2, taken, c.requires.stock, c.requires.few, c.loop-test.true)),
      ap (λ (s : PlainSpares). s.room) c.copy-copy.ensures.stock ∙ h.3,
    )

pub returns-clause-held : goal.returns-clause-held
returns-clause-held c =
    all_held c.args.self.now c.loop.self _ c.args.fate c.args.now c.loop.counter c.from.result c.args.frame c.damaged-frame.result c.if-fate.false
    (omega (arith, c.loop-test.false, c.loop.auto.counter-end)) c.from.ensures c.damaged-frame.ensures c.loop.invariant.0 c.add-2.ensures
