use Rattle.csp_top.proofs.Reported.{reported}
use Rattle.csp_top.proofs.simulation.report_of.Goals as goal

pub returns-in-Ok-run_of-clause-report : goal.returns-in-Ok-run_of-clause-report
returns-in-Ok-run_of-clause-report c =
    let scene = c.in-Ok.scene in
    let run = c.in-Ok-run_of.run' in
    reported (λ v. v.items) c.args.text.now scene run c.told.result c.in-Ok.ensures.scene c.in-Ok-run_of.ensures.ran c.in-Ok-run_of.ensures.consistent
    (c.ends_causal.ensures scene run c.in-Ok.ensures.ranges c.in-Ok.ensures.ends c.in-Ok-run_of.ensures.ran) (c.stays_reliable_throughout.ensures scene c.in-Ok.ensures.ranges c.in-Ok.ensures.ends)
    c.told.ensures.bytes c.told.ensures.ordinary c.told.ensures.blobs
