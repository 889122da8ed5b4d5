use Rattle.std.proofs.Common.{◌∙◌, ◌++◌}
use Rattle.std.specs.String.{string_bytes}
use Rattle.csp_report.specs.Lines.{text_of}
use Rattle.csp_exports.specs.Unused.{plan_lines}
use Rattle.csp_exports.proofs.faults.push_link.Goals as goal

pub returns : goal.returns
returns c = c.in_ok-push_plan.ensures ∙ (λ i. string_bytes c.args.out.now ++ text_of (plan_lines (λ end. c.counts_of-counts.ensures end i) c.args.nodes.now c.args.link.now))
