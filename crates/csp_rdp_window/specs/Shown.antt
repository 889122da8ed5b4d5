-- the true index that a sequence number shows
use Rattle.std.specs.Prelude.{ℕ, ℤ, pos, negsuc, Option, Some, None}
use Rattle.csp_base.specs.Sequence.{near}

-- an index of a flow: no flow has a negative one
abbrev pub index_of : ℤ → Option ℕ
index_of (pos t) = Some t
index_of (negsuc _) = None

-- the true index that a number shows in a flow that starts at `start`, round the index `around`
abbrev pub shown : ℕ → ℕ → ℕ → Option ℕ
shown n start around = index_of (near n start (pos around))
