use Rattle.std.proofs.Common.{◌≡◌, Some, true, false, slice_get, sym, ap, subst, ◌∙◌, arith}
use Rattle.std.proofs.lemmas.Option.{same_Some, slice_get_within, slice_get-get_or}
use Rattle.csp_ends.specs.Ends.{PlainSide}
use Rattle.csp_ends.specs.Sides.{is_back}
use Rattle.csp_ends.proofs.Lists.{first_of, none_of, up_to}
use Rattle.csp_ends.proofs.sides.back_position.Goals as goal

pub returns-then-is_back_of-clause-found : goal.returns-then-is_back_of-clause-found
returns-then-is_back_of-clause-found c = λ s e.
    let own : PlainSide = c.index-sides-at.result in
    let t : PlainSide = c.index-sides-place.result in
    let mine : slice_get c.args.sides.now c.args.at ≡ Some own = slice_get-get_or c.args.sides.now c.args.at own c.requires ∙ ap (λ x. Some x) (sym c.index-sides-at.is) in
    let there : slice_get c.args.sides.now c.loop-place.place ≡ Some t = slice_get-get_or c.args.sides.now c.loop-place.place t c.loop-place-test.true ∙ ap (λ x. Some x) (sym c.index-sides-place.is) in
    let so : is_back s t ≡ true = subst (λ x. is_back x t ≡ true) (same_Some own s (sym mine ∙ e)) (sym c.is_back_of.ensures ∙ c.if-is_back_of.true) in
    (t, there, so, first_of (is_back s) c.args.sides.now c.loop-place.place t there so (c.loop-place.invariant s e))

pub loop-place-preserved : goal.loop-place-preserved
loop-place-preserved c = λ s e.
    let own : PlainSide = c.index-sides-at.result in
    let t : PlainSide = c.index-sides-place.result in
    let mine : slice_get c.args.sides.now c.args.at ≡ Some own = slice_get-get_or c.args.sides.now c.args.at own c.requires ∙ ap (λ x. Some x) (sym c.index-sides-at.is) in
    let there : slice_get c.args.sides.now c.loop-place.place ≡ Some t = slice_get-get_or c.args.sides.now c.loop-place.place t c.loop-place-test.true ∙ ap (λ x. Some x) (sym c.index-sides-place.is) in
    let so : is_back s t ≡ false = subst (λ x. is_back x t ≡ false) (same_Some own s (sym mine ∙ e)) (sym c.is_back_of.ensures ∙ c.if-is_back_of.false) in
    up_to (is_back s) c.args.sides.now c.loop-place.place t there so (c.loop-place.invariant s e)

pub returns-clause-missing : goal.returns-clause-missing
returns-clause-missing c = λ s e. none_of (is_back s) c.args.sides.now
    (λ k t there. c.loop-place.invariant s e k t (let within = slice_get_within c.args.sides.now k t there in omega (arith, within)) there)
