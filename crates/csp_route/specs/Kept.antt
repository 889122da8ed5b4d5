-- How a table keeps its rows: a list in the order of their prefixes.
use Rattle.std.specs.Prelude.{◌≡◌, ℕ, ◌+◌, ◌≤◌, List, [], ◌∷◌, map, Result, Ok, Err, IsTrue, All}
use Rattle.std.specs.FinMap.{is_sorted}
use Rattle.std.specs.FinMap.Entries.{by_order}
use Rattle.csp_route.specs.declared.prefix.Prefix.{Prefix}
use Rattle.csp_route.specs.declared.row.Row.{Row}
use Rattle.csp_route.specs.declared.prefix.TheConstants.{MAX_MASK}
use Rattle.csp_route.specs.Prefix.{masked, prefix_cmp}
use Rattle.csp_route.specs.Routes.{kept_key, entry_of}

-- a row as it is kept: its address is masked
pub record IsKept (row : Row) : Type 0 where
  pub short : row.mask ≤ MAX_MASK
  pub masked : masked row.addr row.mask ≡ row.addr

-- the rows of a table: kept rows whose prefixes strictly rise
pub record AreKept (rows : List Row) : Type 0 where
  pub in_order : IsTrue (is_sorted prefix_cmp (map entry_of rows))
  pub each : All IsKept rows

-- where the row of a prefix stands among rows in order, counted from n, or else the place where it would stand
abbrev pub place_from : ℕ → Prefix → List Row → Result ℕ ℕ
place_from n prefix [] = Err n
place_from n prefix (row ∷ rows) = by_order (prefix_cmp prefix (kept_key row)) (Err n) (Ok n) (place_from (n + 1) prefix rows)
