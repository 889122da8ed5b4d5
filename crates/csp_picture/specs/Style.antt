-- What a picture's elements look like, by their classes.
use Rattle.std.specs.Prelude.{ℕ, List, ◌++◌, codes}
use Rattle.std.specs.List.{flat_map}
use Rattle.csp_picture.specs.Colours.{name_of, all_colours}
use Rattle.csp_picture.specs.declared.colours.Colour.{Colour}
use Rattle.csp_picture.specs.declared.colours.Colour.TheVariants as colour

-- how a colour is mixed
abbrev pub paint_of : Colour → List ℕ
paint_of colour.Plain = codes "#1f5fbf"
paint_of colour.Lost = codes "#c62828"
paint_of colour.Flipped = codes "#8e24aa"
paint_of colour.Delayed = codes "#ef6c00"
paint_of colour.Repeated = codes "#2e7d32"
paint_of colour.Earlier = codes "#757575"

-- what stands at the end of a line: a cross where the frame is lost, else a point
abbrev pub tip_of : Colour → List ℕ
tip_of colour.Plain = codes "M0 1L9 5L0 9z"
tip_of colour.Lost = codes "M1 1L9 9M9 1L1 9"
tip_of colour.Flipped = codes "M0 1L9 5L0 9z"
tip_of colour.Delayed = codes "M0 1L9 5L0 9z"
tip_of colour.Repeated = codes "M0 1L9 5L0 9z"
tip_of colour.Earlier = codes "M0 1L9 5L0 9z"

-- the paint of lines and of what they surround
abbrev pub paints : Colour → List ℕ
paints c = codes "{stroke:" ++ (paint_of c ++ (codes ";fill:" ++ (paint_of c ++ codes "}\n")))

-- the look of what is of this colour
unfoldable pub look : Colour → List ℕ
look c = codes "." ++ (name_of c ++ paints c)

-- what names a tip
unfoldable pub tip_word : List ℕ
tip_word = codes "{marker-end:url(#"

-- the tip of its lines
unfoldable pub tip : Colour → List ℕ
tip c = codes "line." ++ (name_of c ++ (tip_word ++ (name_of c ++ codes ")}\n")))

-- how a tip begins
unfoldable pub marker_word : List ℕ
marker_word = codes "<marker id='"

-- the names of a tip
unfoldable pub marked : Colour → List ℕ
marked c = marker_word ++ (name_of c ++ (codes "' class='" ++ name_of c))

-- its size and place
unfoldable pub marker_form : List ℕ
marker_form = codes "' viewBox='0 0 10 10' refX='9' refY='5' markerWidth='10' markerHeight='10' markerUnits='userSpaceOnUse' orient='auto'><path d='"

-- how it ends
unfoldable pub marker_end : List ℕ
marker_end = codes "'/></marker>\n"

-- what that tip is
unfoldable pub marker : Colour → List ℕ
marker c = marked c ++ (marker_form ++ (tip_of c ++ marker_end))

-- a white ground, and what all texts and lines look like
unfoldable pub base_style : List ℕ
base_style = codes "<rect width='100%' height='100%' fill='#fff'/>\n<style>\ntext{font:12px monospace;fill:#222;stroke:#fff;stroke-width:3;paint-order:stroke}\nline{stroke-width:2}\n.left{text-anchor:end}\n.middle{text-anchor:middle}\n.node{stroke:#bbb}\ntext.gap{fill:#777}\nline.gap{stroke:#bbb;stroke-width:1;stroke-dasharray:2 4}\n"

-- the style of a picture
unfoldable pub style : List ℕ
style = base_style ++ (flat_map (λ c. look c ++ tip c) all_colours ++ (codes "</style>\n" ++ flat_map marker all_colours))
