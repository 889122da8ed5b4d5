-- It owns nothing, so a `&` to it may go to another thread.
use denote.Param.Send.{IsSync, part_keyless}
use Rattle.csp_tally.specs.contracts.name.TallyName.{the_row}
use Rattle.csp_tally.proofs.name.TallyName.TheSendSync.Send.{send}

pub sync : IsSync the_row
sync = record { shared = λ d b o ν q. part_keyless the_row send q d b o }
