use Rattle.csp_inbox.proofs.Keeps.{gets, misses}
use Rattle.csp_inbox.proofs.one.pop_one.Goals as goal

pub pop_as-requires-clause-pop : goal.pop_as-requires-clause-pop
pop_as-requires-clause-pop g c = gets _ _ c.requires.reads

pub pop_as-requires-clause-empty : goal.pop_as-requires-clause-empty
pop_as-requires-clause-empty g c = misses _ _ c.requires.reads
