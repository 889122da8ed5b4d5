use Rattle.csp_inbox.specs.Sorts.{terms}
use Rattle.csp_inbox.proofs.inbox.Inbox.open.Given as goal

abbrev pub ghosts-open_one : goal.ghosts-open_one
ghosts-open_one a = record { terms = terms a.region.now.name a.room a.prio }
