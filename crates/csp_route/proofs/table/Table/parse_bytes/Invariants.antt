use Rattle.std.proofs.Common.{◌≡◌, length}
use Rattle.std.specs.FinMap as finite
use Rattle.csp_route.specs.Parts.{rows_of}
use Rattle.csp_route.specs.Text.{added, names_of}
use Rattle.csp_route.proofs.table.Table.parse_bytes.Given as goal

abbrev pub invariant-loop-part : goal.invariant-loop-part
invariant-loop-part l = added (names_of l.ifaces) l.table l.rows ≡ added (names_of l.ifaces) finite.empty (rows_of l.fn.text)

abbrev pub decreases-loop-part : goal.decreases-loop-part
decreases-loop-part l = length l.rows
