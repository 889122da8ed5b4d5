use Rattle.csp_world.specs.Record.{record_of}
use Rattle.csp_top.proofs.laws.stays_within_window.Goals as goal

pub returns : goal.returns
returns c scene w ranges ends reached fresh same =
    c.keeps_window.ensures scene (record_of w) ranges (c.is_consistent.ensures scene w ranges ends reached) fresh same
