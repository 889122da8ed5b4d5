-- The elements of a picture: lines, dots and texts, each on a line of its own.
use Rattle.std.specs.Prelude.{ℕ, ◌*◌, List, ◌∷◌, ◌++◌, length, codes}
use Rattle.std.specs.Fmt.{decimal}
use Rattle.csp_picture.specs.declared.elements.Point.{Point}
use Rattle.csp_picture.specs.declared.elements.TheConstants.{RADIUS, CHAR_WIDTH}

-- ` NAME='VALUE'`
abbrev pub attribute : (name value : List ℕ) → List ℕ
attribute name value = 32 ∷ (name ++ (codes "='" ++ (value ++ codes "'")))

-- `<NAME class='CLASS'`
abbrev pub opened : (name class : List ℕ) → List ℕ
opened name class = codes "<" ++ (name ++ attribute (codes "class") class)

-- the two attributes of a point
abbrev pub located : (x y : List ℕ) → Point → List ℕ
located x y p = attribute x (decimal p.x) ++ attribute y (decimal p.y)

-- `/>`, and the end of the line
abbrev pub closed : List ℕ
closed = codes "/>\n"

-- a line of this class from one point to another, with dashes of this length
abbrev pub line : (class : List ℕ) → (start stop : Point) → (dash : ℕ) → List ℕ
line class start stop dash =
    opened (codes "line") class ++ (located (codes "x1") (codes "y1") start ++ (located (codes "x2") (codes "y2") stop ++ (attribute (codes "stroke-dasharray") (decimal dash) ++ closed)))

-- a dot of this class at a point
abbrev pub dot : (class : List ℕ) → Point → List ℕ
dot class p = opened (codes "circle") class ++ (located (codes "cx") (codes "cy") p ++ (attribute (codes "r") (decimal RADIUS) ++ closed))

-- how long words are, whatever the letters' form: `CHAR_WIDTH` for each byte
unfoldable pub long : (words : List ℕ) → ℕ
long words = CHAR_WIDTH * length words

-- how a text of this class at a point begins
unfoldable pub text_start : (class : List ℕ) → Point → List ℕ
text_start class p = opened (codes "text") class ++ located (codes "x") (codes "y") p

-- how long its words are, and they
unfoldable pub text_words : (words : List ℕ) → List ℕ
text_words words = attribute (codes "textLength") (decimal (long words)) ++ (codes ">" ++ (words ++ codes "</text>\n"))

-- words of this class at a point
abbrev pub text : (class : List ℕ) → Point → (words : List ℕ) → List ℕ
text class p words = text_start class p ++ text_words words
