-- A row put into a table, and when that makes too many.
use Rattle.std.proofs.Common.{◌≡◌, ℕ, ◌+◌, ◌<◌, ◌≤◌, sym, ap, ◌∙◌, subst, refl, arith, cond, Result, Ok, Err, Bool, true, false, nat_le, ◌==◌, is_some, List, [], ◌∷◌}
use Rattle.std.specs.FinMap as finite
use Rattle.std.proofs.lemmas.Bool.{leb-true, leb-false}
use Rattle.csp_route.specs.declared.row.Row.{Row}
use Rattle.csp_route.specs.declared.error.RouteError.{RouteError}
use Rattle.csp_route.specs.declared.error.RouteKind.TheVariants.{Full}
use Rattle.csp_route.specs.declared.table.TheConstants.{MAX_ROWS}
use Rattle.csp_route.specs.Routes.{Routes, with_row, key_of, hop_of, HasNoRoom}
use Rattle.std.specs.List.{list_all}
use Rattle.csp_route.specs.Parts.{Part, start_of, rows_of}
use Rattle.csp_route.specs.Text.{◌>>=◌, demand, row_of, put_at, added, parsed, ReadsRow}
use Rattle.csp_route.proofs.PrefixOrder.{prefix_total}

-- there is room where the table with the row is no longer than a table may be
put_fits : (at : ℕ) (table : Routes) (row : Row) (b : Bool) → nat_le (finite.len (with_row table row)) MAX_ROWS ≡ b → finite.len (with_row table row) ≤ MAX_ROWS → (demand b at Full >>= λ _. Ok (with_row table row)) ≡ Ok (with_row table row)
put_fits at table row true e h = refl
put_fits at table row false e h = absurd (omega (arith, leb-false _ _ e))

pub put_ok : (at : ℕ) (table after : Routes) (row : Row) → after ≡ with_row table row → finite.len after ≤ MAX_ROWS → put_at at table row ≡ Ok after
put_ok at table after row e most = put_fits at table row _ refl (subst (λ (t : Routes). finite.len t ≤ MAX_ROWS) e most) ∙ ap Ok (sym e)

put_over : (at : ℕ) (table : Routes) (row : Row) (b : Bool) → nat_le (finite.len (with_row table row)) MAX_ROWS ≡ b → MAX_ROWS < finite.len (with_row table row) → (demand b at Full >>= λ _. Ok (with_row table row)) ≡ Err (record { at = at; kind = Full })
put_over at table row true e h = absurd (omega (arith, leb-true _ _ e))
put_over at table row false e h = refl

pub put_full : (at : ℕ) (table : Routes) (row : Row) → HasNoRoom table (key_of row) → put_at at table row ≡ Err (record { at = at; kind = Full })
put_full at table row none =
    let grown : finite.len (with_row table row) ≡ finite.len table + 1 = finite.len-insert prefix_total table (key_of row) (hop_of row) ∙ ap (λ o. cond (is_some o) (finite.len table) (finite.len table + 1)) none.1 in
    put_over at table row _ refl (omega (arith, grown, none.0))

-- a row that is read, and put into the table or not
pub reads_put : (names : List (List ℕ)) (table : Routes) (part : Part) (row : Row) (after : Result Routes RouteError) → row_of names part ≡ Ok row → put_at (start_of part) table row ≡ after → ReadsRow names table part after
reads_put names table part row after e p = ap (λ r. r >>= λ row. put_at (start_of part) table row) e ∙ p

pub reads_no : (names : List (List ℕ)) (table : Routes) (part : Part) (e : RouteError) → row_of names part ≡ Err e → ReadsRow names table part (Err e)
reads_no names table part e is = ap (λ r. r >>= λ row. put_at (start_of part) table row) is

-- a step of the reading: a part that is read, one with an error, and none that is left
pub added_more : (names : List (List ℕ)) (table after : Routes) (part : Part) (parts all : List Part) → all ≡ part ∷ parts → ReadsRow names table part (Ok after) → added names after parts ≡ added names table all
unfolding added
added_more names table after part parts all is e = sym (ap (added names table) is ∙ ap (λ r. r >>= λ next. added names next parts) e)

pub added_stop : (names : List (List ℕ)) (table : Routes) (part : Part) (parts all : List Part) (e : RouteError) → all ≡ part ∷ parts → ReadsRow names table part (Err e) → added names table all ≡ Err e
unfolding added
added_stop names table part parts all e is h = ap (added names table) is ∙ ap (λ r. r >>= λ next. added names next parts) h

pub added_end : (names : List (List ℕ)) (table : Routes) (all : List Part) → all ≡ [] → added names table all ≡ Ok table
unfolding added
added_end names table all is = ap (added names table) is

-- a text that is not blank is read row by row
pub parsed_rows : (names : List (List ℕ)) (text : List ℕ) → list_all (λ byte. byte == 32) text ≡ false → parsed names text ≡ added names finite.empty (rows_of text)
parsed_rows names text e = ap (λ b. cond b (Ok finite.empty) (added names finite.empty (rows_of text))) e
