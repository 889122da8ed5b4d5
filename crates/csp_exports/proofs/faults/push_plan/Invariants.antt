use Rattle.std.proofs.Common.{◌≡◌, ◌++◌, drop, get_or}
use Rattle.std.specs.List.{flat_map}
use Rattle.std.specs.String.{string_bytes}
use Rattle.csp_report.specs.Lines.{text_of}
use Rattle.csp_exports.specs.Unused.{idle_fault_lines, plan_lines}
use Rattle.csp_exports.proofs.faults.push_plan.Given as goal

-- the text so far, then the lines that are still to come, are those of the whole plan
abbrev pub invariant-loop-fault : goal.invariant-loop-fault
invariant-loop-fault l =
    string_bytes l.out ++ text_of (flat_map (idle_fault_lines (λ end. get_or l.counts end 0) l.nodes l.link) (drop l.fault-index l.link.plan))
    ≡ string_bytes l.initial.out ++ text_of (plan_lines (λ end. get_or l.counts end 0) l.nodes l.link)
