use Rattle.std.proofs.Common.{count_by, ap, arith}
use Rattle.csp_record.specs.Passed.{accepted_by}
use Rattle.csp_record.specs.Record.{PlainPartyLog}
use Rattle.csp_record.specs.Table.{is_unlike}
use Rattle.csp_record.proofs.Counting.{count-within}
use Rattle.csp_record.proofs.counts.count_by_parties.Goals as goal

pub returns-in_default-clause-err : goal.returns-in_default-clause-err
returns-in_default-clause-err c =
    let p = is_unlike c.args.table.now in
    let within = count-within p accepted_by c.args.parties.now c.loop-party.party-index c.party-item.result c.loop-party-test.true in
    omega (arith, c.in_default.ensures, c.loop-party.invariant, c.count_by_party.ensures, within, ap (λ (party : PlainPartyLog). count_by p (accepted_by party)) c.party-item.is)
