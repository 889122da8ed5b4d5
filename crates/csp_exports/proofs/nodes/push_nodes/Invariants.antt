use Rattle.std.proofs.Common.{◌≡◌, ◌++◌, drop}
use Rattle.std.specs.List.{flat_map, enumerate_from}
use Rattle.std.specs.String.{string_bytes}
use Rattle.csp_report.specs.Lines.{text_of}
use Rattle.csp_exports.specs.Unused.{node_lines, silent_lines}
use Rattle.csp_exports.proofs.nodes.push_nodes.Given as goal

-- the text so far, then the lines that are still to come, are those of all nodes
abbrev pub invariant-loop-place : goal.invariant-loop-place
invariant-loop-place l =
    string_bytes l.out ++ text_of (flat_map (λ node. silent_lines l.parties node.0 node.1) (enumerate_from l.place (drop l.place l.nodes)))
    ≡ string_bytes l.initial.out ++ text_of (node_lines l.parties l.nodes)
