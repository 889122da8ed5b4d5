use Rattle.std.proofs.Common.{◌≡◌, ◌++◌, Result, Ok, Err, IsOk, OnOk, arith, ap, sym, ◌∙◌, length}
use Rattle.csp_route.proofs.Views.{view, most_view}
use Rattle.csp_route.proofs.table.Table.copy.Goals as goal

-- what holds of an answer that is Ok
on_ok : {T E : Type 0} (r : Result T E) (P : Type 0) → IsOk r → OnOk r P → P
on_ok (Ok x) P is p = p
on_ok (Err e) P is p = absurd (cc)

pub returns-clause-most : goal.returns-clause-most
returns-clause-most c =
    let fits : IsOk c.try_extend_from_slice.result = c.try_extend_from_slice.ensures.variant.1 (omega (arith, ap length c.new-rows.ensures, c.deref.ensures.1)) in
    let same : c.try_extend_from_slice.new.self.items ≡ c.new-rows.result.items ++ c.deref.result.now = on_ok c.try_extend_from_slice.result _ fits c.try_extend_from_slice.ensures.ok in
    let whole : c.try_extend_from_slice.new.self.items ≡ c.self.inside.rows.items = same ∙ ap (λ xs. xs ++ c.deref.result.now) c.new-rows.ensures ∙ c.deref.ensures.0 in
    most_view c.self.inside.rows.items _ c.self.invariant (ap view (sym whole)) (omega (arith, c.deref.ensures.1, ap length c.deref.ensures.0))
