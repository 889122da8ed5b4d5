-- What a pass tells and knows of how often something was done by all passes of a pool together: of puts, or of takes.
use Rattle.std.specs.Prelude.{ℕ, ◌+◌, max}

-- what a pass did, told, was told and knows of one thing that all passes do: of puts, or of takes
pub record Tally : Type 0 where
  -- how often this pass has done it and has not told the opening pass yet
  pub untold : ℕ
  -- how often others have done it, as they told this pass
  pub counted : ℕ
  -- it was done at least so often by all together, as this pass heard
  pub known : ℕ
  -- by the close it must have been done at least so often by all together
  pub floor : ℕ

-- nothing was done, and nothing is known
abbrev pub blank : Tally
blank = record { untold = 0; counted = 0; known = 0; floor = 0 }

-- how often it was done, as far as this pass, and no other, answers for it: over all passes and notes these add up to the true number
abbrev pub accounted : Tally → ℕ
accounted t = t.counted + t.untold

-- it was done at least so often by all together, as far as this pass knows
abbrev pub known_total : Tally → ℕ
known_total t = max t.known (accounted t)

-- it was done once more, by this pass
abbrev pub one_more : Tally → Tally
one_more t = record t { untold = t.untold + 1 }

-- all together must come to n at least
abbrev pub must_reach : ℕ → Tally → Tally
must_reach n t = record t { floor = max t.floor n }

-- this pass has told what it did
abbrev pub told : Tally → Tally
told t = record t { untold = 0; known = known_total t }

-- the note that tells it
abbrev pub report : Tally → Tally
report t = record { untold = 0; counted = t.untold; known = known_total t; floor = 0 }

-- the note that tells what this pass knows, and answers for nothing
abbrev pub news : Tally → Tally
news t = record { untold = 0; counted = 0; known = known_total t; floor = 0 }

-- both in one: the numbers add up; of what is known, and of the floors, the greater counts
abbrev pub together : Tally → Tally → Tally
together t u = record { untold = t.untold + u.untold; counted = t.counted + u.counted; known = max t.known u.known; floor = max t.floor u.floor }
