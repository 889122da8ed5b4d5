use Rattle.std.proofs.Common.{◌≡◌, ◌≤◌, drop}
use Rattle.csp_kiss.specs.GoingOn.{read_on}
use Rattle.csp_kiss.proofs.GoingOn.{with_refused}
use Rattle.csp_kiss.proofs.reader.KissReader.follow.Given as goal

abbrev pub invariant-loop-index : goal.invariant-loop-index
invariant-loop-index l = record {
  same : read_on l.fn.self l.bytes ≡ with_refused l.refused (read_on l.self (drop l.index l.bytes));
  few : l.refused ≤ l.index;
}
