use Rattle.std.proofs.Common.{◌≡◌, ◌∙◌, sym, ap}
use Rattle.csp_inbox.specs.Passes.{PlainPass}
use Rattle.csp_ends.proofs.Inboxes.{push_done}
use Rattle.csp_ends.proofs.ends.InboxEnd.put.Goals as goal

pub returns-in-Some-clause-put : goal.returns-in-Some-clause-put
returns-in-Some-clause-put g c =
    let own : c.args.self.now.role.mark ≡ c.self.inside.mark = ap (λ (x : PlainPass). x.role.mark) (sym c.self.view_is) ∙ c.self.invariant.0 in
    push_done c.args.self.now c.in-Some.prio c.args.item c.args.inbox.now.room c.push.result c.push.new.pass (rw c.self.view_is at c.push.ensures.pushed) (sym c.requires.of_it.room) (c.in-Some.ensures.mark ∙ sym own) c.in-Some.ensures.prio
