use Rattle.csp_log.proofs.Headers.{lines-move}
use Rattle.csp_log.proofs.log.Log.len.Goals as goal

pub returns-clause-words : goal.returns-clause-words
returns-clause-words c =
    let log = c.self.inside in
    rw (← c.self.view_is) (lines-move log.rows.rows log.bytes.items log.events.items log.lines.items c.self.invariant.rows)
