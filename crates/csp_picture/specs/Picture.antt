-- The picture of a run.
use Rattle.std.specs.Prelude.{ℕ, Option, List, ◌++◌, length, codes}
use Rattle.std.specs.Fmt.{decimal}
use Rattle.csp_happenings.specs.Happenings.{happenings}
use Rattle.csp_happenings.specs.declared.kinds.Happening.{Happening}
use Rattle.csp_record.specs.Record.{PlainRecord}
use Rattle.csp_scene.specs.Scene.{PlainScene, PlainNode, PlainLink}
use Rattle.csp_picture.specs.Elements.{attribute}
use Rattle.csp_picture.specs.Legend.{legend, columns}
use Rattle.csp_picture.specs.Places.{width, height}
use Rattle.csp_picture.specs.Rows.{shapes, notes}
use Rattle.csp_picture.specs.Seen.{nothing_seen, after_all}
use Rattle.csp_picture.specs.Style.{style}
use Rattle.csp_picture.specs.declared.seen.Window.{Window}

-- how the size is named
unfoldable pub box_word : List ℕ
box_word = codes " viewBox='0 0 "

-- ` viewBox='0 0 WIDTH HEIGHT'>`
unfoldable pub view_box : (width height : ℕ) → List ℕ
view_box width height = box_word ++ (decimal width ++ (codes " " ++ (decimal height ++ codes "'>\n")))

-- how every picture begins
unfoldable pub svg_word : List ℕ
svg_word = codes "<svg xmlns='http://www.w3.org/2000/svg'"

-- how a picture of this width and height begins
unfoldable pub head : (width height : ℕ) → List ℕ
head width height =
    svg_word ++ (attribute (codes "width") (decimal width) ++ (attribute (codes "height") (decimal height) ++ view_box width height))

-- what a picture of so many rows has besides what happened: its look, the legend, the columns
unfoldable pub frame : List PlainNode → List PlainLink → (rows : ℕ) → List ℕ
frame nodes links rows = head (width (length nodes)) (height (length links) rows) ++ (style ++ (legend nodes links ++ columns nodes (length links) rows))

-- a picture of what happened: what is drawn, and above it what is written
unfoldable pub drawn : List PlainNode → List PlainLink → Option Window → List Happening → List ℕ
drawn nodes links window happened =
    frame nodes links (after_all window nothing_seen happened).rows
    ++ (shapes links window nothing_seen happened
    ++ (notes (length nodes) links window nothing_seen happened ++ codes "</svg>\n"))

-- the picture of a run of this scene, in a window of rounds if there is one
unfoldable pub picture : PlainScene → PlainRecord → Option Window → List ℕ
picture scene r window = drawn scene.nodes scene.links window (happenings scene r)
