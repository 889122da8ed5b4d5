-- That no two labels meet.
use Rattle.std.specs.Prelude.{ℕ, ◌+◌, ◌-◌, ◌<◌, ◌≤◌}
use Rattle.csp_picture.specs.Places.{down}
use Rattle.csp_picture.specs.declared.rows.TheConstants.{ABOVE, ROUND_DROP, ROUNDS_END, GAP_START}
use Rattle.csp_picture.specs.declared.elements.TheConstants.{RISES, DROPS}
use Rattle.csp_picture.specs.declared.places.TheConstants.{FIRST}

-- letters whose foot is at the one height end above those whose foot is at the other begin
abbrev pub EndsAbove : ℕ → ℕ → Type 0
EndsAbove upper lower = upper + DROPS < lower - RISES

-- the labels of two rows, and what is written left of the columns in them, are one below the other; in a row the number of the round
-- ends before that of the gap begins, and both stand left of the columns
pub record StandApart (links upper lower : ℕ) : Type 0 where
  pub labels : EndsAbove (down links upper - ABOVE) (down links lower - ABOVE)
  pub numbers : EndsAbove (down links upper + ROUND_DROP) (down links lower + ROUND_DROP)
  pub sides : ROUNDS_END < GAP_START
  pub columns : GAP_START < FIRST
