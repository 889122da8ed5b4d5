-- payloads by the slot and the ordinal of their connection
use Rattle.std.specs.Prelude.{◌≡◌, ℕ, List, [], ◌++◌, unwrap_or}
use Rattle.std.specs.BTreeMap.{is_at}
use Rattle.std.specs.Map.{lookup}
use Rattle.std.specs.Ordering.{nat_cmp, ordering_then}
use Rattle.std.specs.declared.cmp.Ordering.{Ordering}

-- the payloads of each connection, by its slot and its ordinal
abbrev pub PlainTraffic : Type 0
PlainTraffic = List ((ℕ × ℕ) × List (List ℕ))

-- pairs in their order: by slot, then ordinal
abbrev pub pair_cmp : (ℕ × ℕ) → (ℕ × ℕ) → Ordering
pair_cmp x y = ordering_then (nat_cmp x.0 y.0) (nat_cmp x.1 y.1)

-- the payloads of this connection: none where it is not there
abbrev pub payloads_on : PlainTraffic → ℕ → ℕ → List (List ℕ)
payloads_on traffic slot ordinal = unwrap_or (lookup (is_at (pair_cmp (slot, ordinal))) traffic) []

-- all payloads are kept, and these come after those of their connection
abbrev pub Gains : PlainTraffic → PlainTraffic → (ℕ → ℕ → List (List ℕ)) → Type 0
Gains old new more = (slot ordinal : ℕ) → payloads_on new slot ordinal ≡ payloads_on old slot ordinal ++ more slot ordinal
