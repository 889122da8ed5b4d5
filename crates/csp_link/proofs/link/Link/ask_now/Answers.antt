use Rattle.std.proofs.Common.{subst, sym, ap, ◌∙◌}
use Rattle.csp_deck.specs.Step.{CanServe}
use Rattle.csp_link.specs.PlainLink.{PlainLink, uses}
use Rattle.csp_link.specs.Room.{plain_link}
use Rattle.csp_link.specs.Turns.{turn_in}
use Rattle.csp_link.specs.declared.doing.Doing.{Doing}
use Rattle.csp_link.specs.declared.way.Way.TheVariants.{Forth, Back}
use Rattle.csp_log.specs.Pictures.{shown_op}
use Rattle.csp_log.specs.declared.operation.Op.{Op}
use Rattle.csp_log.specs.declared.shown.OpShown.{OpShown}
use Rattle.csp_link.proofs.Sound.{asked_forth, asked_back, way_served}
use Rattle.csp_link.proofs.link.Link.ask_now.Goals as goal
use Rattle.csp_link.proofs.link.Link.ask_now.Goals.{in-Forth, in-Back}

pub invariant_of-self : goal.invariant_of-self
invariant_of-self c =
    elim c.match-self.branch [
      | in-Forth w ↦ asked_forth c.self.inside c.match-self.self-inside _ w.ask.new.self c.args.now c.self.invariant w.in-Forth.is w.self-inside-is
          w.ask.ensures.state (rw w.op-is w.ask.ensures.hears)
      | in-Back w ↦ asked_back c.self.inside c.match-self.self-inside _ w.ask-in-Back.new.self c.args.now c.self.invariant w.in-Back.is w.self-inside-is
          w.ask-in-Back.ensures.state (rw w.op-is w.ask-in-Back.ensures.hears)
    ]

pub returns-clause-served : goal.returns-clause-served
returns-clause-served c =
    let a : PlainLink = plain_link c.self.inside in
    elim c.match-self.branch [
      | in-Forth w ↦ subst (λ (o : OpShown). CanServe (uses c.args.self.now) o) (sym (ap (λ (x : Op × Doing). shown_op x.0) w.op-is ∙ w.ask.ensures.op))
          (subst (λ (s : PlainLink). CanServe (uses s) (turn_in Forth c.args.now a.forth).asks) c.self.view_is (way_served a Forth c.args.now c.self.invariant))
      | in-Back w ↦ subst (λ (o : OpShown). CanServe (uses c.args.self.now) o) (sym (ap (λ (x : Op × Doing). shown_op x.0) w.op-is ∙ w.ask-in-Back.ensures.op))
          (subst (λ (s : PlainLink). CanServe (uses s) (turn_in Back c.args.now a.back).asks) c.self.view_is (way_served a Back c.args.now c.self.invariant))
    ]
