use Rattle.std.proofs.Common.{sym, refl}
use Rattle.csp_buffer.specs.Trails.{trace_of}
use Rattle.csp_log.specs.Rows.{bytes_in}
use Rattle.csp_log.proofs.Idle.{idle-line, idle-row, some-told}
use Rattle.csp_log.proofs.log.Log.is_idle.Goals as goal

pub returns-then-row-eq0 : goal.returns-then-row-eq0
returns-then-row-eq0 c =
    let log = c.self.inside in
    let row = c.row-row.result in
    rw (← c.self.view_is)
    (idle-row log.rows.rows log.bytes.items log.events.items log.lines.items c.args.index c.in-Kept.row c.index.result.now row c.is_still.result (rw (← c.self.view_is) at c.requires) c.index.ensures c.in-Kept.is c.row-row.ensures c.self.invariant.rows
    (rw (c.if-row-eq0.true) (sym (c.is_still.ensures (bytes_in log.bytes.items row) (trace_of row.trail)))))

pub returns-else-row-eq0 : goal.returns-else-row-eq0
returns-else-row-eq0 c =
    let log = c.self.inside in
    rw (← c.self.view_is)
    (idle-row log.rows.rows log.bytes.items log.events.items log.lines.items c.args.index c.in-Kept.row c.index.result.now c.row-row.result _ (rw (← c.self.view_is) at c.requires) c.index.ensures c.in-Kept.is c.row-row.ensures c.self.invariant.rows
    (some-told c.row-row.result.events _ c.if-row-eq0.false))

pub returns-in-Rested : goal.returns-in-Rested
returns-in-Rested c =
    let log = c.self.inside in
    rw (← c.self.view_is)
    (idle-line log.rows.rows log.bytes.items log.events.items log.lines.items c.args.index c.index.result.now _ (rw (← c.self.view_is) at c.requires) c.index.ensures (rw (c.in-Rested.is) refl))

pub returns-in-FoundNoBuffer : goal.returns-in-FoundNoBuffer
returns-in-FoundNoBuffer c =
    let log = c.self.inside in
    rw (← c.self.view_is)
    (idle-line log.rows.rows log.bytes.items log.events.items log.lines.items c.args.index c.index.result.now _ (rw (← c.self.view_is) at c.requires) c.index.ensures (rw (c.in-FoundNoBuffer.is) refl))

pub returns-in-FoundEmpty : goal.returns-in-FoundEmpty
returns-in-FoundEmpty c =
    let log = c.self.inside in
    rw (← c.self.view_is)
    (idle-line log.rows.rows log.bytes.items log.events.items log.lines.items c.args.index c.index.result.now _ (rw (← c.self.view_is) at c.requires) c.index.ensures (rw (c.in-FoundEmpty.is) refl))
