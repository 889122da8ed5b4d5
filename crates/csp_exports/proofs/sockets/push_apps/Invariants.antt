use Rattle.std.proofs.Common.{◌≡◌, ◌++◌, drop}
use Rattle.std.specs.List.{flat_map, enumerate_from}
use Rattle.std.specs.String.{string_bytes}
use Rattle.csp_report.specs.Lines.{text_of}
use Rattle.csp_exports.specs.Unused.{app_lines}
use Rattle.csp_exports.proofs.sockets.push_apps.Given as goal

-- the text so far, then the lines that are still to come, are those of all these applications
abbrev pub invariant-loop-number : goal.invariant-loop-number
invariant-loop-number l =
    string_bytes l.out ++ text_of (flat_map (λ a. app_lines l.parties l.place a.0 l.node a.1) (enumerate_from l.number (drop l.number l.apps)))
    ≡ string_bytes l.initial.out ++ text_of (flat_map (λ a. app_lines l.parties l.place a.0 l.node a.1) (enumerate_from 0 l.apps))
