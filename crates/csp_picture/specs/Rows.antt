-- The rows of a picture: what is drawn and what is written in each.
use Rattle.std.specs.Prelude.{ℕ, ◌+◌, ◌-◌, ◌/◌, ◌==◌, Bool, true, false, nat_lt, if◌then◌else◌, Option, Some, None, List, [], ◌++◌, length, codes, slice_get}
use Rattle.std.specs.Fmt.{decimal}
use Rattle.std.specs.Option.{option_map_or, option_and_then}
use Rattle.csp_base.specs.declared.traces.Origin.{Origin}
use Rattle.csp_happenings.specs.declared.kinds.Happening.{Happening}
use Rattle.csp_log.specs.declared.framed.Piece.{Piece}
use Rattle.csp_happenings.specs.declared.kinds.What.{What}
use Rattle.csp_happenings.specs.declared.kinds.What.TheVariants as what
use Rattle.csp_link.specs.declared.fates.Fate.{Fate}
use Rattle.csp_log.specs.declared.who.Who.{Who}
use Rattle.csp_log.specs.declared.who.Who.TheVariants as who
use Rattle.csp_scene.specs.Scene.{PlainLink}
use Rattle.csp_picture.specs.Colours.{colour_of, name_of}
use Rattle.csp_picture.specs.Elements.{line, dot, text}
use Rattle.csp_picture.specs.Places.{across, top, down, width, dash}
use Rattle.csp_picture.specs.Seen.{PlainSeen, is_shown, opens, sent_by, start_of, along}
use Rattle.csp_picture.specs.Words.{spaced, sent_words, fate_words}
use Rattle.csp_picture.specs.declared.elements.Point.{Point}
use Rattle.csp_picture.specs.declared.colours.Colour.TheVariants as colour
use Rattle.csp_picture.specs.declared.rows.Course.{Course}
use Rattle.csp_picture.specs.declared.rows.TheConstants.{ABOVE, BESIDE, ROUNDS_END, ROUND_DROP, GAP_START, GAP_RISE}
use Rattle.csp_picture.specs.declared.seen.Sent.{Sent}
use Rattle.csp_picture.specs.declared.seen.Start.{Start}
use Rattle.csp_picture.specs.declared.seen.Window.{Window}

-- the place of a link's party among the links
abbrev pub link_of : Who → ℕ
link_of (who.Link link) = link
link_of _ = 0

-- the node at an end of a link
abbrev pub node_at : List PlainLink → (link end : ℕ) → ℕ
node_at links link end = option_map_or (λ e. e.node) (option_and_then (λ l. slice_get l.ends end) (slice_get links link)) 0

-- the end beside this one of a link or a hub: the one after it, and beside the last the one before it
abbrev pub end_beside : List PlainLink → (link end : ℕ) → ℕ
end_beside links link end = if nat_lt (end + 1) (option_map_or (λ l. length l.ends) (slice_get links link) 0) then end + 1 else end - 1

-- over which link a frame goes that came from this end: from the node there, and toward the node at the end beside it, which on a link with two ends
-- is its receiver
abbrev pub course_from : List PlainLink → Who → (end : ℕ) → Course
course_from links party end = record { link = link_of party; from = node_at links (link_of party) end; to = node_at links (link_of party) (end_beside links (link_of party) end) }

-- the node that sent a frame, by its origin; of none, that which received it
abbrev pub sender_of : Option Origin → (receiver : ℕ) → ℕ
sender_of None receiver = receiver
sender_of (Some origin) receiver = origin.node

-- over which link a frame goes that is handed on to this end: from the node that sent it, to the node there
abbrev pub course_to : List PlainLink → Who → Option Origin → (end : ℕ) → Course
course_to links party origin end = record { link = link_of party; from = sender_of origin (node_at links (link_of party) end); to = node_at links (link_of party) end }

-- the point on a node's line in a row
abbrev pub spot : (links row node : ℕ) → Point
spot links row node = record { x = across node; y = down links row }

-- half way from the one node's line to the other's in a row
abbrev pub half_way : (links row from to : ℕ) → Point
half_way links row from to = record { x = (across from + across to) / 2; y = down links row }

-- a lost frame's line ends half way
abbrev pub lost_line : (lost : Bool) → (links row : ℕ) → Course → List ℕ
lost_line false links row c = []
lost_line true links row c = line (name_of colour.Lost) (spot links row c.from) (half_way links row c.from c.to) (dash c.link)

-- a link took a frame: a dot on its sender's line
abbrev pub taken_shape : (links row : ℕ) → Course → Fate → List ℕ
taken_shape links row c fate = dot (name_of (colour_of fate)) (spot links row c.from) ++ lost_line fate.lost links row c

-- a link handed a frame on: a line to its receiver's line, from where the link took it, or from the top where the picture has not that
abbrev pub handed_shape : (links row : ℕ) → Course → Option Start → List ℕ
handed_shape links row c None = line (name_of colour.Earlier) (record { x = across c.from; y = top links }) (spot links row c.to) (dash c.link)
handed_shape links row c (Some start) = line (name_of start.colour) (spot links start.row c.from) (spot links row c.to) (dash c.link)

-- what is drawn of what happened
abbrev pub shape : List PlainLink → PlainSeen → Who → What → List ℕ
shape links seen party (what.Carried end number fate frame) = taken_shape (length links) seen.rows (course_from links party end) fate
shape links seen party (what.HandedOn end frame) = handed_shape (length links) seen.rows (course_to links party frame.trace.origin end) (start_of seen frame.trace.origin)
shape links seen party _ = []

-- the same, where it is shown
abbrev pub shape_of : (shown : Bool) → List PlainLink → PlainSeen → Happening → List ℕ
shape_of true links seen h = shape links seen h.who h.what
shape_of false links seen h = []

-- all that is drawn
abbrev pub shapes : List PlainLink → Option Window → PlainSeen → List Happening → List ℕ
shapes links window seen happened = along (λ s h. shape_of (is_shown window h) links s h) window seen happened

-- ---- what is written

-- the name of a link
abbrev pub link_name : List PlainLink → ℕ → List ℕ
link_name links link = option_map_or (λ l. l.name) (slice_get links link) []

-- a frame's words: those of its packet where it opens one
abbrev pub frame_words : (opening : Bool) → Option Sent → List ℕ
frame_words true sent = sent_words sent
frame_words false sent = spaced (codes "part")

-- a label: the link, the frame, its fate
unfoldable pub label : List ℕ → PlainSeen → Piece → Fate → List ℕ
label name seen frame fate = name ++ (frame_words (opens frame.can) (sent_by seen frame.trace.origin) ++ fate_words fate)

-- it stands above the frame's line, beside the sender's line, on the side to which that goes
unfoldable pub label_text : (links row : ℕ) → Course → (words : List ℕ) → List ℕ
label_text links row c words =
    if nat_lt c.from c.to
    then text (codes "right") (record { x = across c.from + BESIDE; y = down links row - ABOVE }) words
    else text (codes "left") (record { x = across c.from - BESIDE; y = down links row - ABOVE }) words

-- the label of a frame that a link took
abbrev pub note : List PlainLink → PlainSeen → Who → What → List ℕ
note links seen party (what.Carried end number fate frame) = label_text (length links) seen.rows (course_from links party end) (label (link_name links (link_of party)) seen frame fate)
note links seen party _ = []

-- the round, left of the first column
unfoldable pub round_text : (links row round : ℕ) → List ℕ
round_text links row round = text (codes "left") (record { x = ROUNDS_END; y = down links row + ROUND_DROP }) (decimal round)

-- a gap of so many rounds in which nothing was shown: a line across, and how many
unfoldable pub gap : (nodes links row rounds : ℕ) → List ℕ
gap nodes links row rounds =
    line (codes "gap") (record { x = GAP_START; y = down links row - GAP_RISE }) (record { x = width nodes; y = down links row - GAP_RISE }) 0
    ++ text (codes "gap") (record { x = GAP_START; y = down links row + ROUND_DROP }) (codes "+" ++ decimal rounds)

-- the round, where it is another than that of the row above, and the gap between them
abbrev pub times : (nodes links row : ℕ) → (last : Option ℕ) → (round : ℕ) → List ℕ
times nodes links row None round = round_text links row round
times nodes links row (Some last) round =
    if last == round then []
    else (if nat_lt (last + 1) round then gap nodes links row (round - last - 1) else []) ++ round_text links row round

-- what is written in a row
abbrev pub notes_of : (shown : Bool) → (nodes : ℕ) → List PlainLink → PlainSeen → Happening → List ℕ
notes_of true nodes links seen h = times nodes (length links) seen.rows seen.last h.time ++ note links seen h.who h.what
notes_of false nodes links seen h = []

-- all that is written
abbrev pub notes : (nodes : ℕ) → List PlainLink → Option Window → PlainSeen → List Happening → List ℕ
notes nodes links window seen happened = along (λ s h. notes_of (is_shown window h) nodes links s h) window seen happened
