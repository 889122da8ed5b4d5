use Rattle.std.proofs.Common.{◌≡◌, sym, subst, ap, ◌∙◌}
use Rattle.csp_buffer.specs.Memory.{HaveEachOnce}
use Rattle.csp_ending.specs.Stores.{PlainStore}
use Rattle.csp_pool.specs.PlainPool.{numbers}
use Rattle.csp_ending.proofs.Stores.{as_many, each_once}
use Rattle.csp_ending.proofs.store.Store.leave.Goals as goal

pub close-requires-clause-count : goal.close-requires-clause-count
close-requires-clause-count c =
    let back : c.args.self.numbers ≡ numbers c.self.inside.back.items = ap (λ (s : PlainStore). s.numbers) (sym c.self.view_is) in
    as_many c.weighs.ensures.len c.args.self c.self.inside.back.items back c.requires ∙ ap (λ (s : PlainStore). s.count) (sym c.self.view_is)

pub close-requires-clause-each_once : goal.close-requires-clause-each_once
close-requires-clause-each_once c =
    let back : c.args.self.numbers ≡ numbers c.self.inside.back.items = ap (λ (s : PlainStore). s.numbers) (sym c.self.view_is) in
    subst (λ n. HaveEachOnce n c.self.inside.back.items) (ap (λ (s : PlainStore). s.count) (sym c.self.view_is)) (each_once c.args.self c.self.inside.back.items back c.requires)
