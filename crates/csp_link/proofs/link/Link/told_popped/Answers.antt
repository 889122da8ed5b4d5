use Rattle.std.proofs.Common.{subst, sym}
use Rattle.csp_deck.specs.Step.{IsAnswerOf}
use Rattle.csp_link.specs.PlainLink.{PlainLink, uses}
use Rattle.csp_link.specs.Room.{plain_link}
use Rattle.csp_link.specs.Turns.{awaits}
use Rattle.csp_log.specs.Pictures.{shown_item}
use Rattle.csp_log.specs.declared.shown.AnswerShown.TheVariants as answer
use Rattle.csp_link.proofs.Sound.{IsFrameOf, popped_carried, popped_forth, popped_back}
use Rattle.csp_link.proofs.link.Link.told_popped.Goals as goal
use Rattle.csp_link.proofs.link.Link.told_popped.Goals.{in-Forth, in-Back}

pub invariant_of-self : goal.invariant_of-self
invariant_of-self c =
    let s : PlainLink = plain_link c.self.inside in
    let fits : IsAnswerOf (uses s) (awaits s) (answer.Popped (shown_item c.args.item)) = subst (λ (x : PlainLink). IsAnswerOf (uses x) (awaits x) (answer.Popped (shown_item c.args.item))) (sym c.self.view_is) c.requires.fits in
    let carried : IsFrameOf s.kind c.frame_of-frame.result = popped_carried s s.way s.doing (shown_item c.args.item) c.frame_of-frame.result fits c.frame_of-frame.ensures in
    elim c.match-self.branch [
      | in-Forth w ↦ popped_forth c.self.inside c.match-self.self-inside _ w.take.new.self c.args.now c.frame_of-frame.result c.self.invariant w.self-inside-is w.take.ensures.state carried
      | in-Back w ↦ popped_back c.self.inside c.match-self.self-inside _ w.take-in-Back.new.self c.args.now c.frame_of-frame.result c.self.invariant w.self-inside-is w.take-in-Back.ensures.state carried
    ]
