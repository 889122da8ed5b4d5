use Rattle.std.specs.List.{AllWithin}
use Rattle.csp_top.specs.Prefix.{TellsNumbered}
use Rattle.csp_top.proofs.numbers.hold_numbers.Given as goal

-- so it is in the parties so far
abbrev pub invariant-loop-party : goal.invariant-loop-party
invariant-loop-party l = AllWithin TellsNumbered l.run.parties 0 l.party-index
