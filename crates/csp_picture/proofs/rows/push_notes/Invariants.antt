use Rattle.std.proofs.Common.{◌≡◌, ◌++◌, drop}
use Rattle.std.specs.String.{string_bytes}
use Rattle.csp_picture.specs.Rows.{notes}
use Rattle.csp_picture.proofs.rows.push_notes.Given as goal

-- the text so far, then what is still to be written, are all
abbrev pub invariant-loop-happening : goal.invariant-loop-happening
invariant-loop-happening l = string_bytes l.out ++ notes l.nodes l.links l.window l.seen (drop l.happening-index l.happenings) ≡ string_bytes l.initial.out ++ notes l.nodes l.links l.window l.initial.seen l.happenings
