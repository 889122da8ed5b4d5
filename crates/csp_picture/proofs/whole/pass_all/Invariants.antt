use Rattle.std.proofs.Common.{◌≡◌, drop}
use Rattle.csp_picture.specs.Seen.{after_all}
use Rattle.csp_picture.proofs.whole.pass_all.Given as goal

-- what is known in the end stays
abbrev pub invariant-loop-happening : goal.invariant-loop-happening
invariant-loop-happening l = after_all l.window l.seen (drop l.happening-index l.happenings) ≡ after_all l.window l.initial.seen l.happenings
