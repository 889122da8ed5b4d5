-- The numbers that packets took in the flows of a node, as a set.
use Rattle.std.specs.Prelude.{◌≡◌, ℕ, ◌||◌, Bool, false, Option}
use Rattle.std.specs.BTreeSet.{BTreeSet, contains}
use Rattle.std.specs.Option.{option_map_or}
use Rattle.std.specs.Ordering.{nat_cmp, ordering_then}
use Rattle.std.specs.declared.cmp.Ordering.{Ordering}
use Rattle.csp_happenings.specs.Happenings.{is_same}

-- numbers in their order: by flow, then index
abbrev pub number_cmp : (ℕ × ℕ) → (ℕ × ℕ) → Ordering
number_cmp x y = ordering_then (nat_cmp x.0 y.0) (nat_cmp x.1 y.1)

-- whether a set has this number
abbrev pub has : BTreeSet (ℕ × ℕ) → ℕ × ℕ → Bool
has numbers n = contains number_cmp numbers n

-- a set has its numbers, and this one, if there is one
abbrev pub Adds : BTreeSet (ℕ × ℕ) → BTreeSet (ℕ × ℕ) → Option (ℕ × ℕ) → Type 0
Adds old new more = (n : ℕ × ℕ) → has new n ≡ (has old n || option_map_or (is_same n) more false)
