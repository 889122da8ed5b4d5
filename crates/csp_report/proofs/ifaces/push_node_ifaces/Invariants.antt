use Rattle.std.proofs.Common.{◌≡◌, ◌≤◌, ◌++◌, map, drop}
use Rattle.std.specs.List.{enumerate_from}
use Rattle.std.specs.String.{string_bytes}
use Rattle.csp_scene.specs.Links.{links_at}
use Rattle.csp_report.specs.Lines.{text_of}
use Rattle.csp_report.specs.Parties.{entries_at}
use Rattle.csp_report.specs.Ifaces.{iface_line}
use Rattle.csp_report.specs.Report.{node_iface_lines}
use Rattle.csp_log.specs.declared.who.Who.TheVariants as who
use Rattle.csp_report.proofs.ifaces.push_node_ifaces.Given as goal

-- the text so far, then the lines of the links that are still to come, are those of all links; there are at most as many interfaces as links
abbrev pub invariant-loop-link : goal.invariant-loop-link
invariant-loop-link l =
    (string_bytes l.out ++ text_of (map (λ link. iface_line l.node link.1.name (entries_at l.parties (who.Iface l.place link.0))) (enumerate_from l.number (links_at l.place (drop l.link-index l.links))))
    ≡ string_bytes l.initial.out ++ text_of (node_iface_lines l.parties l.place l.node l.links))
    × (l.number ≤ l.link-index)
