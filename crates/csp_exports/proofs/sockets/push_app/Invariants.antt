use Rattle.std.proofs.Common.{◌≡◌, ◌-◌, ◌++◌}
use Rattle.std.specs.List.{flat_map, range_with_len}
use Rattle.std.specs.String.{string_bytes}
use Rattle.csp_report.specs.Lines.{text_of}
use Rattle.csp_exports.specs.Unused.{app_lines, lonely_lines}
use Rattle.csp_exports.specs.declared.sockets.TheConstants.{PORTS}
use Rattle.csp_exports.proofs.sockets.push_app.Given as goal

-- the text so far, then the lines that are still to come, are those of all ports
abbrev pub invariant-loop-port : goal.invariant-loop-port
invariant-loop-port l =
    string_bytes l.out ++ text_of (flat_map (lonely_lines l.parties l.place l.number l.node l.app) (range_with_len l.port (PORTS - l.port)))
    ≡ string_bytes l.initial.out ++ text_of (app_lines l.parties l.place l.number l.node l.app)
