use Rattle.std.specs.String.{string_bytes}
use Rattle.csp_report.proofs.ReportLemmas.{report_joined}
use Rattle.csp_report.proofs.text.push_lines.Goals as goal

pub returns : goal.returns
returns c =
    report_joined c.args.nodes.now c.args.links.now c.args.run.now (string_bytes c.args.out.now) (string_bytes c.push_total.new.out) (string_bytes c.push_end.new.out) (string_bytes c.push_nodes.new.out) (string_bytes c.push_routers.new.out) (string_bytes c.push_ifaces.new.out) (string_bytes c.push_asked_of_nodes.new.out) (string_bytes c.push_apps.new.out) (string_bytes c.push_last.new.out)
    c.in_ok-push_total.ensures c.in_ok-push_end.ensures c.in_ok-push_nodes.ensures c.in_ok-push_routers.ensures c.in_ok-push_ifaces.ensures c.in_ok-push_asked_of_nodes.ensures c.in_ok-push_apps.ensures c.in_ok-push_last.ensures
