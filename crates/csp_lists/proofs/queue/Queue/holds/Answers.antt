use Rattle.std.proofs.Common.{◌∙◌, ap, nat_lt}
use Rattle.csp_deck.specs.Step.{times}
use Rattle.csp_lists.proofs.Backs.{items_numbered}
use Rattle.csp_lists.proofs.queue.Queue.holds.Goals as goal

pub returns : goal.returns
returns c = rw (← c.self.view_is) (c.holds.ensures ∙ ap (λ ns. nat_lt 0 (times c.args.number ns)) (items_numbered c.self.inside.fifo.items))
