-- The routes of the generated text.
use Rattle.std.proofs.Common.{◌≡◌, ℕ, ◌+◌, ◌<◌, ◌≤◌, Bool, true, false, cond, List, [], ◌∷◌, length, ap, ◌∙◌, arith, Ok}
use Rattle.std.specs.Prelude.{codes}
use Rattle.std.specs.FinMap as finite
use Rattle.csp_route.specs.Text.{parsed, added, row_of, put_at, demand, ◌>>=◌}
use Rattle.csp_route.specs.Routes.{Routes, Hop, key_of, hop_of, with_row, with_entries, merged}
use Rattle.csp_route.specs.Prefix.{prefix_cmp}
use Rattle.csp_route.proofs.Public.{prefix_total}
use Rattle.csp_route.specs.declared.prefix.Prefix.{Prefix}
use Rattle.csp_route.specs.declared.row.Row.{Row}
use Rattle.csp_route.specs.declared.error.RouteKind.TheVariants.{Full}
use Rattle.std.proofs.lemmas.Bool.{le-leb}
use Rattle.csp_gen.specs.GenScene.{row, no_rows, all_to, relay_table}

-- a row more is at most one entry more
row_len : (t : Routes) (k : Prefix) (v : Hop) → finite.len (finite.insert t k v) ≤ finite.len t + 1
row_len t k v = by_test (finite.contains_key t k) (finite.len-insert prefix_total t k v)
  where
    by_test : (b : Bool) → finite.len (finite.insert t k v) ≡ cond b (finite.len t) (finite.len t + 1) → finite.len (finite.insert t k v) ≤ finite.len t + 1
    by_test true e = omega arith
    by_test false e = omega arith

entries_len : (t : Routes) (es : List (Prefix × Hop)) → finite.len (with_entries t es) ≤ finite.len t + length es
entries_len t [] = omega arith
entries_len t (e ∷ es) = let one = row_len t e.0 e.1 in let more = entries_len (finite.insert t e.0 e.1) es in omega arith

pub merged_len : (t more : Routes) → finite.len (merged t more) ≤ finite.len t + finite.len more
merged_len t more = let all = entries_len t (finite.entries more) in let same = finite.len-entries more in omega arith

pub no_rows_len : finite.len no_rows ≡ 0
no_rows_len = finite.len-empty prefix_cmp Hop

pub more_rows : (table : Routes) (row : Row) (n : ℕ) → finite.len table ≤ n → finite.len (with_row table row) ≤ n + 1
more_rows table row n h = let more = row_len table (key_of row) (hop_of row) in omega arith

-- a row that there is room for
pub put : (at : ℕ) (table : Routes) (row : Row) (n : ℕ) → finite.len table ≤ n → n < 32 → put_at at table row ≡ Ok (with_row table row)
put at table row n h few =
    let more = more_rows table row n h in
    ap (λ t. demand t at Full >>= λ _. Ok (with_row table row)) (le-leb (finite.len (with_row table row)) 32 (omega arith))

pub ground_routes : parsed (codes "radio" ∷ []) (codes " 0/0 radio") ≡ Ok (all_to 0)
unfolding added row_of
ground_routes = ap (λ r. r >>= λ next. Ok next) (put 1 no_rows (row 0 0 0) 0 (omega (arith, no_rows_len)) (omega arith))

pub payload_routes : parsed (codes "bus" ∷ []) (codes " 0/0 bus") ≡ Ok (all_to 0)
unfolding added row_of
payload_routes = ap (λ r. r >>= λ next. Ok next) (put 1 no_rows (row 0 0 0) 0 (omega (arith, no_rows_len)) (omega arith))

pub relay_routes : parsed (codes "radio" ∷ codes "bus" ∷ []) (codes " 1 radio, 3 bus") ≡ Ok relay_table
unfolding added row_of
relay_routes =
    let one = put 1 no_rows (row 1 5 0) 0 (omega (arith, no_rows_len)) (omega arith) in
    let two = put 10 (with_row no_rows (row 1 5 0)) (row 3 5 1) 1 (more_rows no_rows (row 1 5 0) 0 (omega (arith, no_rows_len))) (omega arith) in
    ap (λ r. r >>= λ next. put_at 10 next (row 3 5 1) >>= λ last. Ok last) one ∙ ap (λ r. r >>= λ last. Ok last) two
