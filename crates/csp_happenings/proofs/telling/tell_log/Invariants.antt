use Rattle.std.proofs.Common.{◌≡◌, [], ◌++◌, take, drop}
use Rattle.csp_happenings.specs.Happenings.{along_from, happened}
use Rattle.csp_happenings.specs.Remembering.{AreWithin, Remembers}
use Rattle.csp_happenings.proofs.telling.tell_log.Given as goal

-- what was told so far, with what is still to come, is what all entries tell; and what is remembered is of the entries so far
abbrev pub invariant-loop-index : goal.invariant-loop-index
invariant-loop-index l =
    (l.list.items ++ along_from (happened l.scene l.who) (take l.index l.log.entries) (drop l.index l.log.entries) ≡ l.initial.list.items ++ along_from (happened l.scene l.who) [] l.log.entries)
    × Remembers l.scene (take l.index l.log.entries) l.memory l.who
    × AreWithin l.index l.memory.carrying
