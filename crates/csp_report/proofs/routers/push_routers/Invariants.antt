use Rattle.std.proofs.Common.{◌≡◌, ◌++◌, map, drop}
use Rattle.std.specs.List.{enumerate_from}
use Rattle.std.specs.String.{string_bytes}
use Rattle.csp_report.specs.Lines.{text_of}
use Rattle.csp_report.specs.Report.{router_line}
use Rattle.csp_report.proofs.routers.push_routers.Given as goal

-- the text so far, then the lines that are still to come, are those of all nodes
abbrev pub invariant-loop-place : goal.invariant-loop-place
invariant-loop-place l = string_bytes l.out ++ text_of (map (λ node. router_line l.run node.0 node.1) (enumerate_from l.place (drop l.place l.nodes))) ≡ string_bytes l.initial.out ++ text_of (map (λ node. router_line l.run node.0 node.1) (enumerate_from 0 l.nodes))
