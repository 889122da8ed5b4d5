-- In a text, what was taken on each reliable connection with a peer is the beginning of what the peer sent.
use Rattle.std.specs.Prelude.{ℕ, ◌≡◌, ◌==◌, ◌||◌, Bool, List, [], ◌∷◌, ◌++◌, map, filter, take, drop, get_or, codes, IsTrue, if◌then◌else◌}
use Rattle.std.specs.List.{slice_split, starts_with, take_while, AllByRecursion}
use Rattle.std.specs.Str.{bytes_eq}
use Rattle.csp_text.specs.Cut.{lines_of}
use Rattle.csp_report.specs.Lines.{Line}
use Rattle.csp_report.specs.Summary.{last_two}

-- the words of a text's lines: what spaces separate
abbrev pub word_lines : List ℕ → List Line
word_lines text = map (slice_split (λ b. b == 32)) (lines_of text)

-- whether a line is that of a connection that became open
abbrev pub is_conn : Line → Bool
is_conn line = starts_with bytes_eq line (codes "conn" ∷ [])

-- whether a line begins `WORD NODE APP SLOT ORD`, the last four being those of a connection's line `conn NODE APP SLOT ORD ..`
abbrev pub is_on : List ℕ → Line → Line → Bool
is_on word conn line = starts_with bytes_eq line (word ∷ take 4 (drop 1 conn))

-- of the lines after a connection's line those that belong to it: from the first on, as long as they tell what was sent or taken on it
abbrev pub following : Line → List Line → List Line
following conn lines = take_while (λ line. is_on (codes "sent") conn line || is_on (codes "took") conn line) lines

-- the text of a payload in its line: the last word of `WORD NODE APP SLOT ORD I HEX`
abbrev pub text_in : Line → List ℕ
text_in line = get_or line 6 []

-- the texts in the lines of a connection that begin with this word
abbrev pub texts_by : List ℕ → Line → List Line → List (List ℕ)
texts_by word conn lines = map text_in (filter (is_on word conn) (following conn lines))

-- a connection that became open, as a text tells it: its line, and the texts of what was sent and taken on it
pub record ToldConnection : Type 0 where
  pub line : Line
  pub sent : List (List ℕ)
  pub took : List (List ℕ)

-- by its line and the lines after it
abbrev pub told_connection : Line → List Line → ToldConnection
told_connection conn lines = record { line = conn; sent = texts_by (codes "sent") conn lines; took = texts_by (codes "took") conn lines }

-- all of which lines tell
abbrev pub all_told : List Line → List ToldConnection
all_told [] = []
all_told (line ∷ lines) = (if is_conn line then told_connection line lines ∷ [] else []) ++ all_told lines

-- its line is `conn NODE APP SLOT ORD rdp NTH ..`, of this node and with this number
pub record IsOfFlow (node nth : List ℕ) (x : ToldConnection) : Type 0 where
  pub app : List ℕ
  pub slot : List ℕ
  pub ordinal : List ℕ
  pub more : Line
  pub form : x.line ≡ codes "conn" ∷ node ∷ app ∷ slot ∷ ordinal ∷ codes "rdp" ∷ nth ∷ more

-- its line is `conn NODE APP SLOT ORD rdp NTH peer NODE2 NTH2`, with this node and this number as NODE2 and NTH2
pub record HasPeer (node nth : List ℕ) (x : ToldConnection) : Type 0 where
  pub own_node : List ℕ
  pub app : List ℕ
  pub slot : List ℕ
  pub ordinal : List ℕ
  pub own_nth : List ℕ
  pub form : x.line ≡ codes "conn" ∷ own_node ∷ app ∷ slot ∷ ordinal ∷ codes "rdp" ∷ own_nth ∷ codes "peer" ∷ node ∷ nth ∷ []

-- what was sent on each of these connections that is of the peer's flow begins with what was taken on x; where none is, nothing was taken
pub record HasPeersTexts (all : List ToldConnection) (node nth : List ℕ) (x : ToldConnection) : Type 0 where
  pub prefix : AllByRecursion (λ y. IsOfFlow node nth y → IsTrue (starts_with bytes_eq y.sent x.took)) all
  pub never : AllByRecursion (λ y. IsOfFlow node nth y → ⊥) all → x.took ≡ []

-- so it is for each of these connections
abbrev pub HavePeersTexts : List ToldConnection → Type 0
HavePeersTexts all = AllByRecursion (λ x. (node nth : List ℕ) → HasPeer node nth x → HasPeersTexts all node nth x) all

-- the last two lines tell that there was no stale copy and no packet that passed changed
abbrev pub IsUndisturbed : List ℕ → Type 0
IsUndisturbed text = last_two (lines_of text) ≡ codes "stale 0" ∷ codes "passed 0" ∷ []

-- where they do, so it is for the connections of which the text tells
abbrev pub HasReliablePrefix : List ℕ → Type 0
HasReliablePrefix text = IsUndisturbed text → HavePeersTexts (all_told (word_lines text))
