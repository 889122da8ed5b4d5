use Rattle.std.proofs.Common.{◌≡◌, ◌++◌, drop}
use Rattle.std.specs.List.{flat_map}
use Rattle.csp_happenings.specs.Happenings.{happenings_of}
use Rattle.csp_happenings.proofs.gathering.tell_parties.Given as goal

-- what was told so far, with what is still to come, is what all these parties did
abbrev pub invariant-loop-party : goal.invariant-loop-party
invariant-loop-party l =
    l.list.items ++ flat_map (happenings_of l.scene) (drop l.party-index l.parties)
    ≡ l.initial.list.items ++ flat_map (happenings_of l.scene) l.parties
