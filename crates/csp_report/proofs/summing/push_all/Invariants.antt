use Rattle.std.proofs.Common.{◌≡◌, ◌++◌, map, drop}
use Rattle.csp_report.specs.Summary.{joined}
use Rattle.csp_report.proofs.summing.push_all.Given as goal

-- what was appended so far, then the lines still to come, are all lines
abbrev pub invariant-loop-line : goal.invariant-loop-line
invariant-loop-line l = l.out.items ++ joined (map (λ line. line.now) (drop l.line-index l.lines)) ≡ l.initial.out.items ++ joined (map (λ line. line.now) l.lines)
