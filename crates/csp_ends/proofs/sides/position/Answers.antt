use Rattle.std.proofs.Common.{◌≡◌, Some, true, false, slice_get, sym, ap, ◌∙◌, arith}
use Rattle.std.proofs.lemmas.Option.{slice_get_within, slice_get-get_or}
use Rattle.csp_consistent.specs.Reading.{is_queue}
use Rattle.csp_ends.specs.Ends.{PlainSide}
use Rattle.csp_ends.proofs.Lists.{all_from, first_of, up_to}
use Rattle.csp_ends.proofs.sides.position.Goals as goal

pub returns-then-is_called-clause-found : goal.returns-then-is_called-clause-found
returns-then-is_called-clause-found c =
    let s : PlainSide = c.index-sides-at.result in
    let there : slice_get c.args.sides.now c.loop-at.at ≡ Some s = slice_get-get_or c.args.sides.now c.loop-at.at s (omega arith) ∙ ap (λ x. Some x) (sym c.index-sides-at.is) in
    let called : is_queue c.args.queue s.queue ≡ true = sym c.is_called.ensures ∙ c.if-is_called.true in
    (s, there, called, first_of (λ (x : PlainSide). is_queue c.args.queue x.queue) c.args.sides.now c.loop-at.at s there called c.loop-at.invariant)

pub loop-at-preserved : goal.loop-at-preserved
loop-at-preserved c =
    let s : PlainSide = c.index-sides-at.result in
    let there : slice_get c.args.sides.now c.loop-at.at ≡ Some s = slice_get-get_or c.args.sides.now c.loop-at.at s (omega arith) ∙ ap (λ x. Some x) (sym c.index-sides-at.is) in
    up_to (λ (x : PlainSide). is_queue c.args.queue x.queue) c.args.sides.now c.loop-at.at s there (sym c.is_called.ensures ∙ c.if-is_called.false) c.loop-at.invariant

pub returns-clause-missing : goal.returns-clause-missing
returns-clause-missing c =
    all_from (λ (s : PlainSide). is_queue c.args.queue s.queue ≡ false) c.args.sides.now
    (λ k s there. c.loop-at.invariant k s (let within = slice_get_within c.args.sides.now k s there in omega (arith, within)) there)
