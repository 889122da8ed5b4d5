use Rattle.std.specs.List.{AllWithin}
use Rattle.csp_ordinary.specs.Words.{FetchesWords}
use Rattle.csp_ordinary.proofs.words.hold_words.Given as goal

-- so it is of the parties so far
abbrev pub invariant-loop-party : goal.invariant-loop-party
invariant-loop-party l = AllWithin FetchesWords l.party-items 0 l.party-index
