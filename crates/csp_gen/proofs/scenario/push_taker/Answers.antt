use Rattle.std.specs.Prelude.{codes}
use Rattle.std.specs.Fmt.{decimal}
use Rattle.std.specs.String.{string_bytes}
use Rattle.std.proofs.Common.{◌++◌}
use Rattle.csp_gen.proofs.Joining.{two_lines, last_line, no_end}
use Rattle.csp_gen.proofs.scenario.push_taker.Goals as goal

pub returns : goal.returns
returns c =
    last_line (string_bytes c.args.out.now) (string_bytes c.push_str.new.self) (string_bytes c.push_line_with.new.out) (two_lines (codes "app payload cam") (codes "bind 10 rdp"))
    (codes "recv 0 " ++ decimal c.args.packets) c.in_ok-push_str.ensures.bytes (no_end (string_bytes c.push_str.new.self) (string_bytes c.push_line_with.new.out) (codes "recv 0 " ++ decimal c.args.packets) c.in_ok-push_line_with.ensures)
