use Rattle.std.proofs.Common.{◌≡◌, ◌+◌, ◌≤◌, ◌++◌, length, vec_len, vec_capacity}
use Rattle.csp_lists.proofs.list_deck.pour.Given as goal

abbrev pub invariant-loop-buffer : goal.invariant-loop-buffer
invariant-loop-buffer l =
    (l.into.items ++ l.from.items ≡ l.fn.into.items ++ l.fn.from.items)
    × (vec_len l.into + length l.from.items ≤ vec_capacity l.into) × (vec_capacity l.into ≡ vec_capacity l.fn.into)

abbrev pub decreases-loop-buffer : goal.decreases-loop-buffer
decreases-loop-buffer l = length l.from.items
