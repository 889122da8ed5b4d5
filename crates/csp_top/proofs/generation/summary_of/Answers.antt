use Rattle.std.proofs.Common.{Err, ap, ◌∙◌}
use Rattle.csp_top.proofs.Generated.{has_report, only_memory}
use Rattle.csp_top.proofs.generation.summary_of.Goals as goal

pub returns-in-Err-clause-report : goal.returns-in-Err-clause-report
returns-in-Err-clause-report c = has_report c.args.packets c.stays_below.ensures c.in-Err.ensures.stated

pub returns-in-Err-report_of-clause-report : goal.returns-in-Err-report_of-clause-report
returns-in-Err-report_of-clause-report c = has_report c.args.packets c.stays_below.ensures c.in-Ok.ensures.stated

pub returns-in-Err-report_of-clause-refused : goal.returns-in-Err-report_of-clause-refused
returns-in-Err-report_of-clause-refused c =
    only_memory c.args.packets c.as_slice.result.now c.in-Err-report_of.refusal c.stays_below.ensures c.in-Ok.ensures.stated (c.as_slice.ensures.value ∙ c.in-Ok.ensures.text)
    (λ line kind e. c.in-Err-report_of.ensures.scene line kind (ap Err e)) (λ e. c.in-Err-report_of.ensures.entries (ap Err e))
