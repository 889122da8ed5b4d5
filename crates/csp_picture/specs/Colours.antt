-- The colours of frames, by what became of them.
use Rattle.std.specs.Prelude.{ℕ, Bool, ◌||◌, nat_lt, is_some, if◌then◌else◌, List, [], ◌∷◌, codes}
use Rattle.csp_link.specs.declared.fates.Fate.{Fate}
use Rattle.csp_picture.specs.declared.colours.Colour.{Colour}
use Rattle.csp_picture.specs.declared.colours.Colour.TheVariants as colour

-- the colour of a fate: of several faults the first of these counts
abbrev pub colour_of : Fate → Colour
colour_of fate =
    if fate.lost then colour.Lost
    else if is_some fate.flip then colour.Flipped
    else if nat_lt 0 fate.delay then colour.Delayed
    else if nat_lt 0 fate.repeats then colour.Repeated
    else colour.Plain

-- the name of a colour, which is the class of its lines and dots
abbrev pub name_of : Colour → List ℕ
name_of colour.Plain = codes "plain"
name_of colour.Lost = codes "lost"
name_of colour.Flipped = codes "flipped"
name_of colour.Delayed = codes "delayed"
name_of colour.Repeated = codes "repeated"
name_of colour.Earlier = codes "earlier"

-- the colours in the order of the legend
unfoldable pub all_colours : List Colour
all_colours = colour.Plain ∷ colour.Lost ∷ colour.Flipped ∷ colour.Delayed ∷ colour.Repeated ∷ colour.Earlier ∷ []

-- whether a plan does anything to a frame
abbrev pub is_harmed : Fate → Bool
is_harmed fate = fate.lost || is_some fate.flip || nat_lt 0 fate.delay || nat_lt 0 fate.repeats
