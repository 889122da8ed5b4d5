use Rattle.std.proofs.Common.{Some, length, subst, sym}
use Rattle.csp_stack.specs.Party.{IsSendable}
use Rattle.csp_stack.specs.Router.{Leaving, State}
use Rattle.csp_stack.proofs.Sendable.{by_row_sendable}
use Rattle.csp_stack.proofs.sending.send.Goals as goal

pub returns-then-eq-clause-keeps : goal.returns-then-eq-clause-keeps
returns-then-eq-clause-keeps c = rw (← c.to_itself.ensures.number) (c.leave.ensures.keeps (length c.args.facts.now.ifaces))

pub returns-in-Some-clause-sendable : goal.returns-in-Some-clause-sendable
returns-in-Some-clause-sendable c =
    subst (λ (s : State). IsSendable c.args.facts.now s.out) (sym c.leave-in-Some.ensures.told.state)
    (subst (λ (o : Leaving). IsSendable c.args.facts.now (Some o)) (sym c.by_row.ensures.packet)
    (by_row_sendable c.args.facts.now c.in-Some.row c.args.buffer.picture (c.in-Some.ensures.known (length c.args.facts.now.ifaces) c.requires.within) c.by_row.ensures.mark))

pub returns-in-Some-clause-keeps : goal.returns-in-Some-clause-keeps
returns-in-Some-clause-keeps c = rw (← c.by_row.ensures.number) (c.leave-in-Some.ensures.keeps (length c.args.facts.now.ifaces))

pub returns-in-None-clause-keeps : goal.returns-in-None-clause-keeps
returns-in-None-clause-keeps c = c.discard.ensures.keeps (length c.args.facts.now.ifaces)
