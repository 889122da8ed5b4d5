use Rattle.std.proofs.Common.{◌≡◌, max}
use Rattle.std.specs.List.{fold}
use Rattle.csp_link.specs.Fates.{most_copies}
use Rattle.csp_hub.proofs.fates.Fates.most_copies.Given as goal

abbrev pub invariant-loop-fate : goal.invariant-loop-fate
invariant-loop-fate l = fold (λ most entry. max most entry.1.repeats) l.most l.fate-iterator ≡ most_copies l.self
