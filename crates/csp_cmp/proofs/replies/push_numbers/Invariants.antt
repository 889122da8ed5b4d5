use Rattle.std.proofs.Common.{◌≡◌, ◌+◌, ◌*◌, ◌++◌, length, take}
use Rattle.std.specs.Int.{to_be_bytes, w32}
use Rattle.std.specs.List.{flat_map}
use Rattle.csp_cmp.proofs.replies.push_numbers.Given as goal

abbrev pub invariant-loop-number : goal.invariant-loop-number
invariant-loop-number l =
    (l.out.items ≡ l.initial.out.items ++ flat_map (to_be_bytes w32) (take l.number-index l.numbers))
    × (length l.out.items ≡ length l.initial.out.items + 4 * l.number-index)
