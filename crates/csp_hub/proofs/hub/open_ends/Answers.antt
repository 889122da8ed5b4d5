use Rattle.std.proofs.Common.{◌+◌, ◌∷◌, ◌++◌, [], ◌∙◌, sym, ap, ap₂, arith}
use Rattle.std.proofs.lemmas.List.FromFn.{map-range_with_len_more}
use Rattle.csp_hub.specs.PlainHub.{opening_end}
use Rattle.csp_hub.proofs.hub.open_ends.Goals as goal

pub loop-number-preserved : goal.loop-number-preserved
loop-number-preserved c = (
  c.push_reserved.ensures.items ∙ ap₂ (λ l x. l ++ x ∷ []) c.loop-number.invariant.0 c.in_ok-open.ensures
      ∙ sym (map-range_with_len_more (opening_end c.args.plan.now) 0 c.loop-number.number c.loop-number.number (omega arith)),
  c.push_reserved.ensures.len ∙ ap (λ n. n + 1) c.loop-number.invariant.1,
  c.push_reserved.ensures.capacity ∙ c.loop-number.invariant.2,
)
