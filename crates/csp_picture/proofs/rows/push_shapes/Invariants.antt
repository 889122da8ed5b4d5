use Rattle.std.proofs.Common.{◌≡◌, ◌++◌, drop}
use Rattle.std.specs.String.{string_bytes}
use Rattle.csp_picture.specs.Rows.{shapes}
use Rattle.csp_picture.proofs.rows.push_shapes.Given as goal

-- the text so far, then the shapes that are still to come, are all
abbrev pub invariant-loop-happening : goal.invariant-loop-happening
invariant-loop-happening l = string_bytes l.out ++ shapes l.links l.window l.seen (drop l.happening-index l.happenings) ≡ string_bytes l.initial.out ++ shapes l.links l.window l.initial.seen l.happenings
