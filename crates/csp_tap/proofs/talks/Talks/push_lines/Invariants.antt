-- What is appended so far, and the lines of the talks that are left, are those of all.
use Rattle.std.proofs.Common.{◌≡◌, ◌++◌}
use Rattle.csp_tap.specs.Talks.{talk_lines}
use Rattle.csp_tap.proofs.talks.Talks.push_lines.Given as goal

abbrev pub invariant-loop-talk : goal.invariant-loop-talk
invariant-loop-talk l = l.out.items ++ talk_lines l.talk-iterator ≡ l.initial.out.items ++ talk_lines l.self
