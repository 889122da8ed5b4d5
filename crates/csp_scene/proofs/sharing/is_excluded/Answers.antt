use Rattle.std.proofs.Common.{◌≡◌, ℕ, ◌+◌, ◌-◌, ◌<◌, true, false, length, drop, get_or, sym, ap, ◌∙◌, arith}
use Rattle.std.specs.List.{list_any}
use Rattle.std.proofs.Math.Nat.{le_refl}
use Rattle.std.proofs.Math.Seq.{drop-length}
use Rattle.csp_app.specs.Placing.{plain_step}
use Rattle.csp_app.specs.PlainStep.{PlainStep}
use Rattle.csp_scene.specs.Sharing.{excludes, joins}
use Rattle.csp_scene.proofs.Unmixed.{excluded_at, joined_at, one_more}
use Rattle.csp_scene.proofs.sharing.is_excluded.Goals as goal

pub loop-number-init : goal.loop-number-init
loop-number-init c = rw c.len-number.ensures (ap (list_any (excludes (plain_step c.args.step.now))) (drop-length c.args.script.now), le_refl (length c.args.script.now))

pub returns-then-excludes : goal.returns-then-excludes
returns-then-excludes c =
    let x : PlainStep = plain_step c.args.step.now in
    let other : PlainStep = plain_step c.step-other.result in
    let k : ℕ = c.loop-number.number - 1 in
    let few : k < length c.args.script.now = omega (arith, c.loop-number.invariant.1, c.loop-number-test.true) in
    let there : excludes x (get_or c.args.script.now k other) ≡ true = ap (excludes x) (sym c.step-other.ensures) ∙ (sym c.excludes.ensures ∙ c.if-excludes.true) in
    sym (excluded_at x c.args.script.now k other few there)

pub returns-then-joins : goal.returns-then-joins
returns-then-joins c =
    let x : PlainStep = plain_step c.args.step.now in
    let other : PlainStep = plain_step c.step-other.result in
    let k : ℕ = c.loop-number.number - 1 in
    let few : k < length c.args.script.now = omega (arith, c.loop-number.invariant.1, c.loop-number-test.true) in
    let there : joins x (get_or c.args.script.now k other) ≡ true = ap (joins x) (sym c.step-other.ensures) ∙ (sym c.joins.ensures ∙ c.if-joins.true) in
    sym (joined_at x c.args.script.now k other c.requires few there)

pub loop-number-preserved : goal.loop-number-preserved
loop-number-preserved c =
    let x : PlainStep = plain_step c.args.step.now in
    let other : PlainStep = plain_step c.step-other.result in
    let k : ℕ = c.loop-number.number - 1 in
    let few : k < length c.args.script.now = omega (arith, c.loop-number.invariant.1, c.loop-number-test.true) in
    let next : k + 1 ≡ c.loop-number.number = omega (arith, c.loop-number-test.true) in
    let not_there : excludes x (get_or c.args.script.now k other) ≡ false = ap (excludes x) (sym c.step-other.ensures) ∙ (sym c.excludes.ensures ∙ c.if-excludes.false) in
    let rest : list_any (excludes x) (drop (k + 1) c.args.script.now) ≡ false = rw next c.loop-number.invariant.0 in
    (one_more x c.args.script.now k other few not_there rest, omega (arith, few))
