use Rattle.std.proofs.Common.{subst, sym, ap}
use Rattle.crossbeam_queue.specs.Passes.{view}
use Rattle.csp_pool.specs.Hands.{IsLive}
use Rattle.csp_pool.proofs.Rules.{reports, hears, tells}
use Rattle.csp_pool.proofs.pool.Pool.meet.Goals as goal

pub split-report-requires-clause-rule : goal.split-report-requires-clause-rule
split-report-requires-clause-rule c = reports _ (view c.other.inside.pass) c.other.invariant.1

pub join-requires-clause-rule : goal.join-requires-clause-rule
join-requires-clause-rule c = hears _ (view c.pass.inside.pass) _ (view c.split-report.result) c.pass.invariant.1 (ap (λ h. h.opens) c.split-report.ensures.rule.1) (ap (λ h. h.part) c.split-report.ensures.rule.1)

pub split-news-requires-clause-rule : goal.split-news-requires-clause-rule
split-news-requires-clause-rule c = tells _ (view c.join.new.pass) (subst IsLive (sym c.join.ensures.rule) c.pass.invariant.1)

pub join-requires-2-clause-rule : goal.join-requires-2-clause-rule
join-requires-2-clause-rule c = hears _ (view c.split-report.new.pass) _ (view c.split-news.result) (subst IsLive (sym c.split-report.ensures.rule.0) c.other.invariant.1) (ap (λ h. h.opens) c.split-news.ensures.rule.1) (ap (λ h. h.part) c.split-news.ensures.rule.1)
