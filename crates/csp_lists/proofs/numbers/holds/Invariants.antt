use Rattle.std.proofs.Common.{◌≡◌, nat_lt, drop}
use Rattle.std.specs.List.{flat_map}
use Rattle.csp_deck.specs.Step.{times}
use Rattle.csp_lists.proofs.numbers.holds.Given as goal

-- what the rest holds is what all of it holds
abbrev pub invariant-loop-at : goal.invariant-loop-at
invariant-loop-at g l =
    let numbers = g.T.Numbered.numbers in
    nat_lt 0 (times l.number (flat_map numbers (drop l.at l.list.items))) ≡ nat_lt 0 (times l.number (flat_map numbers l.list.items))
