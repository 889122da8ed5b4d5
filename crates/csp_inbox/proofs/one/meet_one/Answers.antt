use Rattle.std.proofs.Common.{◌∙◌, ap}
use Rattle.csp_inbox.specs.declared.hand.Hand.{Hand}
use Rattle.csp_inbox.proofs.Keeps.{notes_puts, notes_gets, hears_of_puts, hears_of_gets}
use Rattle.csp_inbox.proofs.one.meet_one.Goals as goal

pub split-note-requires-clause-rule : goal.split-note-requires-clause-rule
split-note-requires-clause-rule c = notes_puts _ _ c.requires.roles.1

pub join-requires-clause-rule : goal.join-requires-clause-rule
join-requires-clause-rule c = hears_of_puts _ _ _ _ (ap (λ (v : Hand). v.mail.kept) c.split-note.ensures.rule.1)

pub split-note-requires-2-clause-rule : goal.split-note-requires-2-clause-rule
split-note-requires-2-clause-rule c = notes_gets _ _ (ap (λ (v : Hand). v.role.reads) c.join.ensures.rule ∙ c.requires.roles.0)

pub join-requires-2-clause-rule : goal.join-requires-2-clause-rule
join-requires-2-clause-rule c = hears_of_gets _ _ _ _ (ap (λ (v : Hand). v.mail.kept) c.split-note-2.ensures.rule.1)
