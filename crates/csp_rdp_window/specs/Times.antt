-- timeouts
use Rattle.std.specs.Prelude.{ℕ, ◌-◌, Bool, true, nat_le, Option, Some, None}

-- so long a time has passed since that moment, or there was none; a timeout has passed at exactly its number of rounds
abbrev pub has_passed : Option ℕ → ℕ → ℕ → Bool
has_passed None timeout time = true
has_passed (Some since) timeout time = nat_le timeout (time - since)
