-- A `&` to it holds a part of what it owns.
use denote.Param.Send.{IsSync, part_keyless}
use Rattle.csp_tally.specs.contracts.tally.Tally.{the_row}
use Rattle.csp_tally.proofs.tally.Tally.TheSendSync.Send.{send}

pub sync : IsSync the_row
sync = record { shared = λ d b o ν q. part_keyless the_row send q d b o }
