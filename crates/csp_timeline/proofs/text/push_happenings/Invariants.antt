use Rattle.std.proofs.Common.{◌≡◌, ◌++◌, drop, string_bytes}
use Rattle.std.specs.List.{flat_map}
use Rattle.csp_timeline.specs.Timeline.{line}
use Rattle.csp_timeline.proofs.text.push_happenings.Given as goal

-- the text so far, then the lines that are still to come, are those of all that happened
abbrev pub invariant-loop-happening : goal.invariant-loop-happening
invariant-loop-happening l =
    string_bytes l.out ++ flat_map (line l.scene) (drop l.happening-index l.happenings)
    ≡ string_bytes l.initial.out ++ flat_map (line l.scene) l.happenings
