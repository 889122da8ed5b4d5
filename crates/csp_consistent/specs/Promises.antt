-- What a queue promises of a whole run, whichever kind of queue it is: a plain list, or one that threads share.
use Rattle.std.specs.Prelude.{◌≡◌, ℕ, ◌+◌, ◌≤◌, List, ◌++◌, length}
use Rattle.std.specs.List.{AllByRecursion}
use Rattle.csp_base.specs.declared.priority.Prio.{Prio}
use Rattle.csp_consistent.specs.Reading.{with_mark, with_priority}
use Rattle.csp_deck.specs.Carried.{IsCarried}
use Rattle.csp_deck.specs.Step.{times}
use Rattle.csp_log.specs.declared.places.Rule.TheVariants as rule
use Rattle.csp_log.specs.declared.shown.ItemShown.{ItemShown}

-- a lane with this room: what was got, followed by what was left, is what was put, in order; and no more was left than it has room for
pub record IsLaneKept (room : ℕ) (put got left : List ItemShown) : Type 0 where
  pub order : got ++ left ≡ put
  pub few : length left ≤ room

-- one priority of an inbox: of what was got, followed by what was left, that with each mark is what was put with it, in order; and each is a
-- packet of this priority, with a mark that an inbox carries
pub record IsPriorityKept (p : Prio) (put : ℕ → List ItemShown) (got left : List ItemShown) : Type 0 where
  pub order : (mark : ℕ) → with_mark mark (got ++ left) ≡ put mark
  pub carried : AllByRecursion (IsCarried (rule.Priority p)) (got ++ left)

-- an inbox: each priority is kept; and all that was got is what an inbox carries, packets alone, and so each of a priority
pub record IsInboxKept (put : Prio → ℕ → List ItemShown) (all_got : List ItemShown) (left : Prio → List ItemShown) : Type 0 where
  pub priorities : (p : Prio) → IsPriorityKept p (put p) (with_priority p all_got) (left p)
  pub got : AllByRecursion (IsCarried rule.Inbox) all_got

-- a pool: the numbers that it was opened with, together with those given, are those taken, together with those left
abbrev pub IsPoolKept : (opened given taken left : List ℕ) → Type 0
IsPoolKept opened given taken left = (k : ℕ) → times k opened + times k given ≡ times k taken + times k left
