-- The legend, and the columns of the nodes.
use Rattle.std.specs.Prelude.{ℕ, ◌+◌, ◌-◌, ◌*◌, List, [], ◌++◌, codes, slice_get}
use Rattle.std.specs.List.{flat_map, enumerate_from}
use Rattle.std.specs.Option.{option_map_or}
use Rattle.csp_scene.specs.Scene.{PlainNode, PlainLink}
use Rattle.csp_picture.specs.Colours.{name_of, all_colours}
use Rattle.csp_picture.specs.Elements.{line, text}
use Rattle.csp_picture.specs.Places.{across, top, down, dash}
use Rattle.csp_picture.specs.Words.{spaced}
use Rattle.csp_picture.specs.declared.colours.Colour.{Colour}
use Rattle.csp_picture.specs.declared.colours.Colour.TheVariants as colour
use Rattle.csp_picture.specs.declared.legend.TheConstants.{LEFT, SAMPLE, SAMPLE_STEP, WORD, HEAD_LINE, LINK_LINE, RISE, NAME_RISE, NAME_DROP}
use Rattle.csp_picture.specs.declared.places.TheConstants.{LEGEND_STEP}

-- a sample of a line with its words, at this place from the left and from the top
unfoldable pub sample : (class : List ℕ) → (x y dash : ℕ) → (words : List ℕ) → List ℕ
sample class x y dash words =
    line class (record { x = x; y = y - RISE }) (record { x = x + SAMPLE; y = y - RISE }) dash
    ++ text (codes "right") (record { x = x + WORD; y = y }) words

-- the colours stand side by side
unfoldable pub colour_sample : (place : ℕ) → Colour → List ℕ
colour_sample place c = sample (name_of c) (LEFT + SAMPLE_STEP * place) HEAD_LINE 0 (name_of c)

-- the name of a node
abbrev pub node_name : List PlainNode → ℕ → List ℕ
node_name nodes place = option_map_or (λ n. n.name) (slice_get nodes place) []

-- the words of a link or a hub: its name and the names of the nodes at its ends
unfoldable pub link_words : List PlainNode → PlainLink → List ℕ
link_words nodes link = link.name ++ flat_map (λ end. spaced (node_name nodes end.node)) link.ends

-- the links stand one below the other
unfoldable pub link_sample : List PlainNode → (place : ℕ) → PlainLink → List ℕ
link_sample nodes place link = sample (name_of colour.Plain) LEFT (LINK_LINE + LEGEND_STEP * place) (dash place) (link_words nodes link)

-- the line of the node in this place
unfoldable pub column_line : (links rows place : ℕ) → List ℕ
column_line links rows place = line (codes "node") (record { x = across place; y = top links }) (record { x = across place; y = down links rows }) 0

-- its name above and below that
unfoldable pub column_names : (links rows place : ℕ) → (name : List ℕ) → List ℕ
column_names links rows place name =
    text (codes "middle") (record { x = across place; y = top links - NAME_RISE }) name
    ++ text (codes "middle") (record { x = across place; y = down links rows + NAME_DROP }) name

-- both
unfoldable pub column : (links rows place : ℕ) → PlainNode → List ℕ
column links rows place node = column_line links rows place ++ column_names links rows place node.name

-- the legend
unfoldable pub legend : List PlainNode → List PlainLink → List ℕ
legend nodes links =
    flat_map (λ c. colour_sample c.0 c.1) (enumerate_from 0 all_colours)
    ++ flat_map (λ l. link_sample nodes l.0 l.1) (enumerate_from 0 links)

-- the columns, in the order of the nodes
abbrev pub columns : List PlainNode → (links rows : ℕ) → List ℕ
columns nodes links rows = flat_map (λ n. column links rows n.0 n.1) (enumerate_from 0 nodes)
