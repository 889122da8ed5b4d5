use Rattle.csp_log.proofs.KeptRows.{rows-push}
use Rattle.csp_log.proofs.rows.Rows.push.Goals as goal

pub returns-clause-rows : goal.returns-clause-rows
returns-clause-rows c = rw (← c.self.view_is) (rows-push c.self.inside.kept_rows.items c.self.inside.wides.items c.args.row.now _ _ c.keep_row.ensures.kept c.self.invariant.kept_rows)
