use Rattle.std.proofs.Common.{sym, subst}
use Rattle.crossbeam_queue.specs.Passes.{view}
use Rattle.csp_inbox.specs.Sorts.{HasNothingOf}
use Rattle.csp_inbox.proofs.Keeps.{splits}
use Rattle.csp_inbox.proofs.one.split_one.Goals as goal

pub split-requires-clause-rule : goal.split-requires-clause-rule
split-requires-clause-rule g c = splits _ _ _ c.requires.reads (subst (HasNothingOf (view c.args.port.now)) (sym c.requires.mark) c.requires.free)
