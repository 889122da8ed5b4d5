-- How the end of a lane is seen, whichever of its two it is.
use Rattle.std.specs.Prelude.{Bool, true, false}
use Rattle.csp_ends.specs.declared.ends.LaneEnd.{LaneEnd}
use Rattle.csp_ends.specs.declared.ends.LaneEnd.TheVariants.{Puts, Gets}
use Rattle.csp_lane.specs.Ends.{PlainEnd}

-- whether it is the end that puts
abbrev pub puts_there : LaneEnd → Bool
puts_there (Puts _) = true
puts_there (Gets _) = false

-- what went through it
abbrev pub plain_end : LaneEnd → PlainEnd
plain_end (Puts p) = p
plain_end (Gets c) = c
