use Rattle.std.proofs.Common.{◌≡◌, ◌≤◌, map, drop}
use Rattle.std.specs.FinMap as finite
use Rattle.csp_route.specs.declared.table.TheConstants.{MAX_ROWS}
use Rattle.csp_route.specs.Routes.{with_entries, merged, entry_of}
use Rattle.csp_route.specs.Kept.{AreKept}
use Rattle.csp_route.proofs.table.Table.extend.Given as goal

abbrev pub invariant-loop-row : goal.invariant-loop-row
invariant-loop-row l = record {
  kept : AreKept l.row-items;
  left : with_entries l.both (map entry_of (drop l.row-index l.row-items)) ≡ merged l.fn.self l.fn.more;
  most : finite.len l.both ≤ MAX_ROWS;
}
