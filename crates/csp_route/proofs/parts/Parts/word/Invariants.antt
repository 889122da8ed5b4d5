use Rattle.std.proofs.Common.{◌≡◌, length}
use Rattle.csp_route.specs.Parts.{filled}
use Rattle.csp_route.proofs.parts.Parts.word.Given as goal

abbrev pub invariant-loop-part : goal.invariant-loop-part
invariant-loop-part l = filled l.self ≡ filled l.initial.self

abbrev pub decreases-loop-part : goal.decreases-loop-part
decreases-loop-part l = length l.self
