use Rattle.std.proofs.Common.{sym, ◌∙◌}
use Rattle.csp_record.proofs.Tables.{Adds-new, is-none}
use Rattle.csp_record.proofs.transmissions.add.Goals as goal

pub returns-in_ok-insert : goal.returns-in_ok-insert
returns-in_ok-insert c =
    rw (← c.again.ensures)
    (Adds-new c.args.table.now c.insert.new.self c.args.node c.args.iface c.args.serial c.again.result (is-none _ (sym c.contains_key.ensures ∙ c.if-not-contains_key.true)) (λ q. c.in_ok-insert.ensures.updates.0 q))
