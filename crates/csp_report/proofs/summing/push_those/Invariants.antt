use Rattle.std.proofs.Common.{◌≡◌, ◌++◌, map, drop}
use Rattle.std.specs.Prelude.{filter}
use Rattle.csp_report.specs.Summary.{begins, joined}
use Rattle.csp_report.proofs.summing.push_those.Given as goal

-- what was appended so far, then those of the lines still to come that begin so, are those of all lines
abbrev pub invariant-loop-line : goal.invariant-loop-line
invariant-loop-line l =
    l.out.items ++ joined (filter (begins l.front) (map (λ line. line.now) (drop l.line-index l.lines)))
    ≡ l.initial.out.items ++ joined (filter (begins l.front) (map (λ line. line.now) l.lines))
