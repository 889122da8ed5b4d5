use Rattle.std.proofs.Common.{◌≡◌, ◌++◌, drop}
use Rattle.std.specs.List.{flat_map, enumerate_from}
use Rattle.std.specs.String.{string_bytes}
use Rattle.csp_report.specs.Lines.{text_of}
use Rattle.csp_report.specs.Parties.{party_at, entries_at}
use Rattle.csp_report.specs.Report.{app_lines, node_app_lines}
use Rattle.csp_log.specs.declared.who.Who.TheVariants as who
use Rattle.csp_report.proofs.apps.push_app_list.Given as goal

-- the text so far, then the lines that are still to come, are those of all these applications
abbrev pub invariant-loop-number : goal.invariant-loop-number
invariant-loop-number l =
    string_bytes l.out ++ text_of (flat_map (λ app. app_lines l.host.nodes.now l.host.node.now (entries_at l.parties (who.Router l.place)) app.1.name app.0 (party_at l.parties (who.App l.place app.0))) (enumerate_from l.number (drop l.number l.apps)))
    ≡ string_bytes l.initial.out ++ text_of (node_app_lines l.host.nodes.now l.parties l.place l.host.node.now l.apps)
