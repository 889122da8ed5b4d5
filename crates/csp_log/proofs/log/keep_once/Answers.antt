use Rattle.std.proofs.Common.{◌∙◌, ◌-◌, length, ap}
use Rattle.std.proofs.Math.Dec.{eqb}
use Rattle.std.specs.List.{ends_with}
use Rattle.csp_log.proofs.Logged.{kept_again, kept_anew}
use Rattle.csp_log.proofs.log.keep_once.Goals as goal

pub returns-then-ends_with-clause-kept : goal.returns-then-ends_with-clause-kept
returns-then-ends_with-clause-kept c =
    kept_again c.args.bytes.now.items c.args.carried.now _ c.ends_with.result (c.ends_with.ensures.value ∙ ap (λ xs. ends_with eqb xs c.args.carried.now) c.as_slice.ensures.value) c.if-ends_with.true
    (ap (λ n. n - length c.args.carried.now) (c.len.ensures ∙ c.args.bytes.now.ok.0))

pub returns-else-ends_with-clause-kept : goal.returns-else-ends_with-clause-kept
returns-else-ends_with-clause-kept c =
    kept_anew c.args.bytes.now.items c.keep.new.list.items c.args.carried.now c.keep.result c.ends_with.result (c.ends_with.ensures.value ∙ ap (λ xs. ends_with eqb xs c.args.carried.now) c.as_slice.ensures.value) c.if-ends_with.false
    c.keep.ensures.items c.keep.ensures.start
