use Rattle.std.proofs.Common.{subst, sym, arith, ap, refl}
use Rattle.std.specs.FinMap as finite
use Rattle.csp_route.specs.Routes.{with_entries, merged, IsWithin}
use Rattle.csp_route.proofs.Merges.{merge_step, merge_over, merge_end}
use Rattle.csp_route.proofs.Withins.{merged_within}
use Rattle.csp_route.proofs.table.Table.extend.Goals as goal

pub loop-row-init : goal.loop-row-init
loop-row-init c = record { kept = c.rows-row-items.ensures.kept; left = λ i. with_entries (c.copy-both.ensures.value i) (c.rows-row-items.ensures.entries i); most = c.copy-both.ensures.most }

pub loop-row-preserved : goal.loop-row-preserved
loop-row-preserved c = record {
  kept = c.loop-row.invariant.kept;
  left = merge_step c.rows-row-items.result.now c.loop-row.row-index c.row-item.result c.loop-row.both c.set.new.self (merged c.args.self.now c.args.more.now) c.loop-row.invariant.kept (omega arith) c.row-item.is c.in_ok-set.ensures.ok c.loop-row.invariant.left;
  most = c.set.ensures.most;
}

pub returns-in_err-set-clause-full : goal.returns-in_err-set-clause-full
returns-in_err-set-clause-full c = (λ _. merge_over c.rows-row-items.result.now c.loop-row.row-index c.row-item.result c.loop-row.both (merged c.args.self.now c.args.more.now) c.loop-row.invariant.kept (omega arith) c.row-item.is (c.in_err-set.ensures.full.0 refl) c.loop-row.invariant.left, λ _. c.from_residual.ensures.0)

pub returns-clause-ok : goal.returns-clause-ok
returns-clause-ok c = merge_end c.rows-row-items.result.now c.loop-row.row-index c.loop-row.both (merged c.args.self.now c.args.more.now) (omega arith) c.loop-row.invariant.left

pub returns-clause-full : goal.returns-clause-full
returns-clause-full c =
    let same = merge_end c.rows-row-items.result.now c.loop-row.row-index c.loop-row.both (merged c.args.self.now c.args.more.now) (omega arith) c.loop-row.invariant.left in
    (λ e. absurd (cc), λ over. absurd (omega (arith, over, ap finite.len same, c.loop-row.invariant.most)))

pub returns-clause-known : goal.returns-clause-known
returns-clause-known c =
    let same = merge_end c.rows-row-items.result.now c.loop-row.row-index c.loop-row.both (merged c.args.self.now c.args.more.now) (omega arith) c.loop-row.invariant.left in
    λ count all more. subst (IsWithin count) (sym same) (merged_within count c.args.self.now c.args.more.now all more)
