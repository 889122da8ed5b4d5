-- The routing table as a finite map.
use Rattle.std.specs.Prelude.{List, [], ◌∷◌, ◌≡◌, ℕ, zero, suc, ◌+◌, ◌≤◌, ◌<◌, Option, None, Some, refl}
use Rattle.std.specs.List.{All}
use Rattle.std.specs.FinMap as finite
use Rattle.std.specs.Coded.{Coded, code_by, coded×, coded_ℕ, coded_option}
use Rattle.csp_route.specs.declared.prefix.Prefix.{Prefix}
use Rattle.csp_route.specs.declared.prefix.TheConstants.{MAX_MASK}
use Rattle.csp_route.specs.declared.row.Row.{Row}
use Rattle.csp_route.specs.declared.table.TheConstants.{MAX_ROWS}
use Rattle.csp_route.specs.Prefix.{prefix_of, Covers, prefix_cmp}

-- where a packet goes: the number of an interface, and the next hop where one is named
pub record Hop : Type 0 where
  pub iface : ℕ
  pub via : Option ℕ

-- a table: from each prefix to where its packets go
abbrev pub Routes : Type 0
Routes = finite.FinMap prefix_cmp Hop

-- how a proof tells prefixes and hops apart: by their fields
abbrev pub prefix_code : Coded Prefix
prefix_code = code_by (ℕ × ℕ) (coded× coded_ℕ coded_ℕ) (λ p. (p.addr, p.mask)) (λ p. record { addr = p.0; mask = p.1 }) (λ _. refl)

-- how a proof tells hops apart: by their fields
abbrev pub hop_code : Coded Hop
hop_code = code_by (ℕ × Option ℕ) (coded× coded_ℕ (coded_option coded_ℕ)) (λ h. (h.iface, h.via)) (λ h. record { iface = h.0; via = h.1 }) (λ _. refl)

-- the prefix under which a row is kept, and where the row leads
abbrev pub key_of : Row → Prefix
key_of row = prefix_of row.addr row.mask

-- where a kept row leads
abbrev pub hop_of : Row → Hop
hop_of row = record { iface = row.iface; via = row.via }

-- the row that is kept for a prefix and a hop
abbrev pub row_from : Prefix → Hop → Row
row_from prefix hop = record { addr = prefix.addr; mask = prefix.mask; iface = hop.iface; via = hop.via }

-- the table with this row in it; a row of the same prefix is replaced
abbrev pub with_row : Routes → Row → Routes
with_row table row = finite.insert table (key_of row) (hop_of row)

-- the best row for an address: it is in the table and covers the address, and no row of a longer prefix does
pub record IsBest (table : Routes) (addr : ℕ) (row : Row) : Type 0 where
  pub listed : finite.get table (record { addr = row.addr; mask = row.mask }) ≡ Some (hop_of row)
  pub covers : Covers (record { addr = row.addr; mask = row.mask }) addr
  pub longest : (other : Prefix) (hop : Hop) → finite.get table other ≡ Some hop → Covers other addr → other.mask ≤ row.mask

-- no row of the table covers the address
abbrev pub NoneCovers : Routes → ℕ → Type 0
NoneCovers table addr = (prefix : Prefix) → Covers prefix addr → finite.get table prefix ≡ None

-- the row of a prefix, or what is found without it
abbrev pub row_or : Prefix → Option Hop → Option Row → Option Row
row_or prefix None rest = rest
row_or prefix (Some hop) rest = Some (row_from prefix hop)

-- the row of the longest prefix of the address, of fewer than so many bits, that is in the table
unfoldable pub longest_below : ℕ → Routes → ℕ → Option Row
longest_below zero table addr = None
longest_below (suc bits) table addr =
    row_or (prefix_of addr bits) (finite.get table (prefix_of addr bits)) (longest_below bits table addr)

-- the row that a packet to this address takes
abbrev pub route_of : Routes → ℕ → Option Row
route_of table addr = longest_below (MAX_MASK + 1) table addr

-- every row of the table leads to one of so many interfaces
abbrev pub IsWithin : ℕ → Routes → Type 0
IsWithin count table = All (λ hop. hop.iface < count) (finite.values table)

-- a row as it is kept, its address already masked: an entry of the map
abbrev pub kept_key : Row → Prefix
kept_key row = record { addr = row.addr; mask = row.mask }

-- a kept row as an entry of the map: its prefix, and where it leads
abbrev pub entry_of : Row → Prefix × Hop
entry_of row = (kept_key row, hop_of row)

-- the table has all the rows that it can have, and none of this prefix
abbrev pub HasNoRoom : Routes → Prefix → Type 0
HasNoRoom table prefix = (finite.len table ≡ MAX_ROWS) × (finite.get table prefix ≡ None)

-- the table with these entries put into it, one after the other
abbrev pub with_entries : Routes → List (Prefix × Hop) → Routes
with_entries table [] = table
with_entries table (entry ∷ entries) = with_entries (finite.insert table entry.0 entry.1) entries

-- the table with every row of another; where both have a row of one prefix, the other's stands
abbrev pub merged : Routes → Routes → Routes
merged table more = with_entries table (finite.entries more)
