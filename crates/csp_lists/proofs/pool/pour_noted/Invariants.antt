use Rattle.std.proofs.Common.{◌≡◌, ◌+◌, ◌≤◌, ◌++◌, length, vec_len, vec_capacity}
use Rattle.csp_lists.specs.Gathered.{numbers_back}
use Rattle.csp_lists.proofs.pool.pour_noted.Given as goal

abbrev pub invariant-loop-buffer : goal.invariant-loop-buffer
invariant-loop-buffer l =
    (l.numbers.items ++ numbers_back l.from.items ≡ l.fn.numbers.items ++ numbers_back l.fn.from.items)
    × (l.into.items ++ l.from.items ≡ l.fn.into.items ++ l.fn.from.items)
    × (vec_len l.numbers + length l.from.items ≤ vec_capacity l.numbers)
    × (vec_len l.into + length l.from.items ≤ vec_capacity l.into) × (vec_capacity l.into ≡ vec_capacity l.fn.into)

abbrev pub decreases-loop-buffer : goal.decreases-loop-buffer
decreases-loop-buffer l = length l.from.items
