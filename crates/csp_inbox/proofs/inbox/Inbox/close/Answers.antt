use Rattle.std.proofs.Common.{◌≡◌, ◌∙◌, sym, ap}
use Rattle.csp_base.specs.declared.priority.Prio.TheVariants.{Critical, High, Normal, Low}
use Rattle.csp_inbox.specs.Passes.{PlainInbox, PlainPass}
use Rattle.csp_inbox.specs.Sorts.{hand}
use Rattle.csp_inbox.proofs.Closing.{closes}
use Rattle.csp_inbox.proofs.inbox.Inbox.close.Goals as goal

pub returns : goal.returns
returns g c =
    let room : c.self.inside.room ≡ c.args.pass.role.room = ap (λ (x : PlainInbox). x.room) c.self.view_is ∙ sym c.requires.of_it.room in
    closes c.args.pass _ _ _ _ _ _ _ _ _ _ _ _ _ _ _ _ _
    (c.self.invariant.critical ∙ room) (c.self.invariant.high ∙ room) (c.self.invariant.normal ∙ room) (c.self.invariant.low ∙ room)
    (c.pass.invariant.critical ∙ ap (λ (p : PlainPass). hand p.role Critical p.critical) c.pass.view_is)
    (c.pass.invariant.high ∙ ap (λ (p : PlainPass). hand p.role High p.high) c.pass.view_is)
    (c.pass.invariant.normal ∙ ap (λ (p : PlainPass). hand p.role Normal p.normal) c.pass.view_is)
    (c.pass.invariant.low ∙ ap (λ (p : PlainPass). hand p.role Low p.low) c.pass.view_is)
    c.drain.ensures.drained c.drain-2.ensures.drained c.drain-3.ensures.drained c.drain-4.ensures.drained
