use Rattle.std.proofs.Common.{Some, None, ◌≡◌, ◌-◌, ◌+◌, sym, ap, ◌∙◌, arith}
use Rattle.csp_route.specs.Routes.{longest_below, route_of}
use Rattle.csp_route.proofs.Matches.{found_step, absent_step, last_step, answer_best, answer_none}
use Rattle.csp_route.proofs.Withins.{best_leads}
use Rattle.csp_route.proofs.table.Table.find.Goals as goal
use Rattle.csp_route.proofs.table.Table.find.Goals.{else-loop-mask-test, then-loop-mask-test+in_default+else-mask-gt0}

value : (c : goal.After-index-deref-place) → route_of c.args.self.now c.args.addr ≡ Some c.index-deref-place.result
value c = sym c.loop-mask.invariant ∙ found_step c.self.inside.rows.items c.args.self.now c.loop-mask.mask c.args.addr c.in-Ok.place c.index-deref-place.result c.self.invariant c.self.view_is (cc) (cc)

pub returns-in-Ok-clause-value : goal.returns-in-Ok-clause-value
returns-in-Ok-clause-value c = sym (value c)

pub returns-in-Ok-clause-best : goal.returns-in-Ok-clause-best
returns-in-Ok-clause-best c = answer_best c.self.inside.rows.items c.args.self.now c.args.addr _ c.self.invariant c.self.view_is (value c)

pub returns-in-Ok-clause-none : goal.returns-in-Ok-clause-none
returns-in-Ok-clause-none c = answer_none c.self.inside.rows.items c.args.self.now c.args.addr _ c.self.invariant c.self.view_is (value c)

pub loop-mask-preserved : goal.loop-mask-preserved
loop-mask-preserved c =
    let back : c.loop-mask.mask - 1 + 1 ≡ c.loop-mask.mask = omega arith in
    ap (λ n. longest_below n c.args.self.now c.args.addr) back
    ∙ sym (absent_step c.self.inside.rows.items c.args.self.now c.loop-mask.mask c.args.addr c.in_default.field-0 c.self.invariant c.self.view_is (cc))
    ∙ c.loop-mask.invariant

none : (c : goal.Left-loop-mask) → route_of c.args.self.now c.args.addr ≡ None
none c = elim c.loop-mask-test.branch [
  | else-loop-mask-test w ↦ absurd (omega arith)
  | then-loop-mask-test+in_default+else-mask-gt0 w ↦ last_step c.self.inside.rows.items c.args.self.now c.loop-mask.mask c.args.addr w.in_default.field-0 c.self.invariant c.self.view_is (omega arith) (cc) c.loop-mask.invariant
]

pub returns-clause-value : goal.returns-clause-value
returns-clause-value c = sym (none c)

pub returns-clause-none : goal.returns-clause-none
returns-clause-none c = answer_none c.self.inside.rows.items c.args.self.now c.args.addr _ c.self.invariant c.self.view_is (none c)

pub returns-in-Ok-clause-known : goal.returns-in-Ok-clause-known
returns-in-Ok-clause-known c = λ count all. best_leads count c.args.self.now c.args.addr c.index-deref-place.result all (answer_best c.self.inside.rows.items c.args.self.now c.args.addr _ c.self.invariant c.self.view_is (value c))
