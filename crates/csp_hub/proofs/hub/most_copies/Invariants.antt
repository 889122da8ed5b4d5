use Rattle.std.proofs.Common.{◌≡◌, ◌≤◌, max, drop}
use Rattle.std.specs.List.{fold}
use Rattle.csp_hub.specs.Stocking.{most_of}
use Rattle.csp_link.specs.Fates.{most_copies}
use Rattle.csp_link.specs.declared.fault.TheConstants.{MAX_REPEATS}
use Rattle.csp_hub.proofs.hub.most_copies.Given as goal

abbrev pub invariant-loop-end : goal.invariant-loop-end
invariant-loop-end l = (fold (λ most e. max most (most_copies e.fates)) l.most (drop l.end-index l.ends) ≡ most_of l.ends) × (l.most ≤ MAX_REPEATS)
