use Rattle.std.proofs.Common.{◌≡◌, rules}
use Rattle.std.proofs.lemmas.List.Sorted.{All-permutation, IsNonDecreasingBy-from_sort_by_key}
use Rattle.csp_arena.specs.Cells.{PlainCell}
use Rattle.csp_arena.proofs.Sorted.{sorted_in_order}
use Rattle.csp_arena.proofs.region.Region.close.Goals as goal

pub reclaim-requires-clause-of_it : goal.reclaim-requires-clause-of_it
reclaim-requires-clause-of_it c =
    All-permutation (λ (d : PlainCell). d.region ≡ c.args.self.name) c.args.cells.items _ c.sort_unstable_by_key.ensures.permutation c.requires.of_it

pub reclaim-requires-clause-in_order : goal.reclaim-requires-clause-in_order
reclaim-requires-clause-in_order c =
    let up = IsNonDecreasingBy-from_sort_by_key (λ (d : PlainCell). d.number) _ c.sort_unstable_by_key.ensures.sorted (λ a r q k. search rules) in
    sorted_in_order c.args.self.cells c.args.cells.items _ c.sort_unstable_by_key.ensures.permutation up c.requires.each_once
