-- Where things stand in a picture, in units to the right and down.
use Rattle.std.specs.Prelude.{ℕ, ◌+◌, ◌*◌, max}
use Rattle.csp_picture.specs.declared.places.TheConstants.{FIRST, COLUMN, LEAST_WIDTH, TOP, LEGEND_STEP, STEP, BELOW, DASH}

-- the line of the node in this place: each node has a column
abbrev pub across : (node : ℕ) → ℕ
across node = FIRST + COLUMN * node

-- where the nodes' lines begin: below the legend, which has a line for each link
abbrev pub top : (links : ℕ) → ℕ
top links = TOP + LEGEND_STEP * links

-- the row of this number, from 0: what is shown has a row each
abbrev pub down : (links row : ℕ) → ℕ
down links row = top links + STEP * (row + 1)

-- how wide and how high a picture is
abbrev pub width : (nodes : ℕ) → ℕ
width nodes = max LEAST_WIDTH (COLUMN * nodes)

-- the nodes' lines end below the last row, and below them stand their names again
abbrev pub height : (links rows : ℕ) → ℕ
height links rows = down links rows + BELOW

-- how long the dashes of a link's lines are: none of the first link's
abbrev pub dash : (link : ℕ) → ℕ
dash link = DASH * link
