use Rattle.std.proofs.Common.{◌≡◌, ◌++◌, drop}
use Rattle.std.specs.List.{flat_map, enumerate_from}
use Rattle.std.specs.String.{string_bytes}
use Rattle.csp_happenings.specs.Happenings.{taken}
use Rattle.csp_report.specs.Lines.{text_of}
use Rattle.csp_exports.specs.Unused.{fault_lines, link_turns, plan_lines}
use Rattle.csp_exports.proofs.faults.push_links.Given as goal

-- the text so far, then the lines that are still to come, are those of all links
abbrev pub invariant-loop-number : goal.invariant-loop-number
invariant-loop-number l =
    string_bytes l.out ++ text_of (flat_map (λ x. plan_lines (λ end. taken end (link_turns l.parties x.0)) l.nodes x.1) (enumerate_from l.number (drop l.number l.links)))
    ≡ string_bytes l.initial.out ++ text_of (fault_lines l.nodes l.parties l.links)
