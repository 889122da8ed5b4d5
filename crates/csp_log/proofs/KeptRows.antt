-- kept rows stay what they are while the rows in a list of their own grow
use Rattle.std.proofs.Common.{◌≡◌, ℕ, ◌<◌, ◌≤◌, List, [], ◌∷◌, ◌++◌, length, map, refl, ap, ◌∙◌, arith, rules}
use Rattle.std.specs.Prelude.{All, get_or}
use Rattle.std.proofs.lemmas.Grind.{common_steps}
use Rattle.std.proofs.lemmas.List.{map-append}
use Rattle.std.proofs.lemmas.List.Elements.{All-head, All-tail, All-weaker, All-push}
use Rattle.csp_buffer.specs.Trails.{full_of}
use Rattle.csp_buffer.specs.declared.trail.BriefTrail.{BriefTrail}
use Rattle.csp_log.specs.KeptRows.{row_of, no_row, brief_row, IsKeptRowIn, IsRowKept}
use Rattle.csp_log.specs.declared.row.LogRow.{LogRow}
use Rattle.csp_log.specs.declared.row.KeptRow.{KeptRow}
use Rattle.csp_log.specs.declared.row.KeptRow.TheVariants as kept_row

-- a row with this trail is the one that its kept row says
pub kept-brief : (kept_rows after : List KeptRow) (wides : List LogRow) (r : LogRow) (trail : BriefTrail) → full_of trail ≡ r.trail → after ≡ kept_rows ++ brief_row r trail ∷ [] → IsRowKept kept_rows wides r after wides
kept-brief kept_rows after wides r trail same grown = record {
  said = brief_row r trail;
  more = [];
  kept_rows_are = grown;
  wides_are = search rules;
  inside = tt;
  stands = ap (λ t. let s : LogRow = record r { trail = t } in s) same;
}

-- and for a row that is appended to the others its place stands
get_or-pushed : (wides : List LogRow) (r : LogRow) → get_or (wides ++ r ∷ []) (length wides) no_row ≡ r
get_or-pushed [] r = refl
get_or-pushed (w ∷ wides) r = get_or-pushed wides r

pub kept-wide : (kept_rows after : List KeptRow) (wides wides_after : List LogRow) (r : LogRow) (place : ℕ) → place ≡ length wides → wides_after ≡ wides ++ r ∷ [] → after ≡ kept_rows ++ kept_row.Wide place ∷ [] → IsRowKept kept_rows wides r after wides_after
kept-wide kept_rows after wides wides_after r place at grown more = record {
  said = kept_row.Wide place;
  more = r ∷ [];
  kept_rows_are = more;
  wides_are = grown;
  inside = rw (at, grown) (grind (arith, common_steps));
  stands = rw (at, grown) (get_or-pushed wides r);
}

-- the rows of these kept rows, whatever follows the others
get_or-more : (wides more : List LogRow) (i : ℕ) → i < length wides → get_or (wides ++ more) i no_row ≡ get_or wides i no_row
get_or-more wides more i h = grind (arith, common_steps)

row_of-more : (wides more : List LogRow) (s : KeptRow) → IsKeptRowIn (length wides) s → row_of (wides ++ more) s ≡ row_of wides s
row_of-more wides more (kept_row.Brief _ _ _ _ _ _ _) h = refl
row_of-more wides more (kept_row.Wide place) h = get_or-more wides more place h

rows-more : (wides more : List LogRow) (kept_rows : List KeptRow) → All (IsKeptRowIn (length wides)) kept_rows → map (row_of (wides ++ more)) kept_rows ≡ map (row_of wides) kept_rows
rows-more wides more [] all = refl
rows-more wides more (s ∷ kept_rows) all =
    let P = IsKeptRowIn (length wides) in
    rw (row_of-more wides more s (All-head P s kept_rows all), rows-more wides more kept_rows (All-tail P s kept_rows all)) refl

-- the rows with one more
pub rows-push : (kept_rows : List KeptRow) (wides : List LogRow) (r : LogRow) (kept_rows_after : List KeptRow) (wides_after : List LogRow) → IsRowKept kept_rows wides r kept_rows_after wides_after → All (IsKeptRowIn (length wides)) kept_rows
    → map (row_of wides_after) kept_rows_after ≡ map (row_of wides) kept_rows ++ r ∷ []
rows-push kept_rows wides r kept_rows_after wides_after kept all =
    ap (map (row_of wides_after)) kept.kept_rows_are
    ∙ map-append (row_of wides_after) kept_rows (kept.said ∷ [])
    ∙ ap (λ x. map (row_of wides_after) kept_rows ++ x ∷ []) kept.stands
    ∙ ap (λ rows. rows ++ r ∷ []) (rw kept.wides_are (rows-more wides kept.more kept_rows all))

-- each kept row still has its row
IsKeptRowIn-more : (n m : ℕ) (s : KeptRow) → n ≤ m → IsKeptRowIn n s → IsKeptRowIn m s
IsKeptRowIn-more n m (kept_row.Brief _ _ _ _ _ _ _) le h = tt
IsKeptRowIn-more n m (kept_row.Wide place) le h = omega arith

pub kept-rows-push : (kept_rows : List KeptRow) (wides : List LogRow) (r : LogRow) (kept_rows_after : List KeptRow) (wides_after : List LogRow) → IsRowKept kept_rows wides r kept_rows_after wides_after → All (IsKeptRowIn (length wides)) kept_rows
    → All (IsKeptRowIn (length wides_after)) kept_rows_after
kept-rows-push kept_rows wides r kept_rows_after wides_after kept all =
    let P = IsKeptRowIn (length wides_after) in
    let more : length wides ≤ length wides_after = rw kept.wides_are (grind (arith, common_steps)) in
    rw (← kept.kept_rows_are) at (All-push P kept_rows kept.said (All-weaker (IsKeptRowIn (length wides)) P (λ x h. IsKeptRowIn-more (length wides) (length wides_after) x more h) kept_rows all) kept.inside)
