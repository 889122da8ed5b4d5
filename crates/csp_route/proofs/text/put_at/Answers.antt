use Rattle.std.proofs.Common.{refl}
use Rattle.csp_route.proofs.Puts.{put_ok, put_full}
use Rattle.csp_route.proofs.text.put_at.Goals as goal

pub returns-in-Ok-clause-ok : goal.returns-in-Ok-clause-ok
returns-in-Ok-clause-ok c = put_ok c.args.at c.args.table.now c.set.new.self c.args.row c.in-Ok.ensures.ok c.set.ensures.most

pub returns-in-Err-clause-err : goal.returns-in-Err-clause-err
returns-in-Err-clause-err c = rw c.refused.ensures (put_full c.args.at c.args.table.now c.args.row (c.in-Err.ensures.full.0 refl))
