use Rattle.std.proofs.Common.{◌≡◌, ◌++◌, [], take, drop}
use Rattle.std.specs.List.{All}
use Rattle.std.specs.String.{string_bytes}
use denote.Shadow.{shadow}
use denote.Text.{Utf8}
use Rattle.csp_route.specs.Text.{names_of}
use Rattle.csp_route.specs.Written.{joined, IsWritable}
use Rattle.csp_route.proofs.Texts.{texts}
use Rattle.csp_route.proofs.writing.push_rows.Given as goal

abbrev pub invariant-loop-row : goal.invariant-loop-row
invariant-loop-row l = record {
  gap : shadow (Utf8 l.gap);
  text : string_bytes l.out ++ joined l.gap (texts (names_of l.ifaces) (drop l.row-index l.rows)) ≡ string_bytes l.fn.out ++ joined [] (texts (names_of l.ifaces) l.rows);
  writable : All IsWritable (take l.row-index l.rows);
}
