use Rattle.std.proofs.Common.{◌≡◌, ◌++◌, drop}
use Rattle.std.specs.List.{flat_map}
use Rattle.csp_exports.specs.Frames.{written_by}
use Rattle.csp_exports.proofs.frames.push_parties.Given as goal

-- what is written so far, then what is still to come, is that for all parties
abbrev pub invariant-loop-party : goal.invariant-loop-party
invariant-loop-party l =
    l.out.items ++ flat_map (written_by l.form l.link l.end) (drop l.party-index l.parties) ≡ l.initial.out.items ++ flat_map (written_by l.form l.link l.end) l.parties
