use Rattle.std.proofs.Common.{◌<◌, length, arith}
use Rattle.csp_record.proofs.Tables.{Adds-party}
use Rattle.csp_record.proofs.transmissions.add_parties.Goals as goal

pub loop-party-preserved : goal.loop-party-preserved
loop-party-preserved c =
    let within : c.loop-party.party-index < length c.args.parties.now = omega arith in
    Adds-party c.args.table.now c.loop-party.table c.add_party.new.table c.args.parties.now c.loop-party.party-index c.party-item.result within c.party-item.is c.loop-party.invariant c.in_ok-add_party.ensures
