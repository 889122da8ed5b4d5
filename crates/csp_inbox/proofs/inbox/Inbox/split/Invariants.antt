use Rattle.csp_inbox.proofs.inbox.Inbox.split.Given as goal

abbrev pub ghosts-split_one : goal.ghosts-split_one
ghosts-split_one a = record { mark = a.mark }
