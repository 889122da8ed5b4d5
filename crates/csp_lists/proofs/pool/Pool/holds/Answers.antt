use Rattle.std.proofs.Common.{◌∙◌, ap, nat_lt}
use Rattle.csp_deck.specs.Step.{times}
use Rattle.csp_lists.proofs.Backs.{buffers_numbered}
use Rattle.csp_lists.proofs.pool.Pool.holds.Goals as goal

pub returns : goal.returns
returns c = rw (← c.self.view_is) (c.holds.ensures ∙ ap (λ ns. nat_lt 0 (times c.args.number ns)) (buffers_numbered c.self.inside.buffers.items))
