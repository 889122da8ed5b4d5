use Rattle.csp_log.proofs.Logged.{says-kept}
use Rattle.csp_log.proofs.log.keep_row.Goals as goal

pub returns-clause-says : goal.returns-clause-says
returns-clause-says c =
    says-kept c.args.rows.now.rows c.args.bytes.now.items c.args.events.now.items c.args.time c.args.carried.now c.args.deed.now c.args.trail.now c.args.told.now _ _ _ _ _ _
    c.len-row.ensures c.keep_once-first_byte.ensures.kept c.keep-first_event.ensures.start c.push.ensures.rows c.keep-first_event.ensures.items c.requires.fits c.hold_word.ensures c.requires.short c.requires.told
