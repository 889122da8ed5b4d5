use Rattle.std.proofs.Common.{◌+◌}
use Rattle.csp_record.proofs.Tables.{Adds-entry, Adds-idle, Adds-over}
use Rattle.csp_record.proofs.transmissions.add_log.Goals as goal

pub loop-index-init : goal.loop-index-init
loop-index-init c =
    let first = c.next_deed-index.ensures in
    (Adds-idle c.args.table.now c.args.node c.args.iface c.args.log.now.entries c.next_deed-index.result first.idle, first.range.1)

pub loop-index-preserved : goal.loop-index-preserved
loop-index-preserved c =
    let next = c.next_deed-index-in-loop-index.ensures in
    let entries = c.args.log.now.entries in (
      Adds-over c.args.table.now c.add_entry.new.table c.args.node c.args.iface entries (c.loop-index.index + 1) c.next_deed-index-in-loop-index.result next.range.0 next.idle
          (Adds-entry c.args.table.now c.loop-index.table c.add_entry.new.table c.args.node c.args.iface entries c.loop-index.index c.loop-index.invariant.0 c.in_ok-add_entry.ensures),
      next.range.1,
    )
