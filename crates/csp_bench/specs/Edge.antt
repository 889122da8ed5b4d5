-- What a call of a program finds, and what it leaves.
use Rattle.std.specs.Prelude.{ℕ, ◌≡◌, ◌≤◌, List, [], length, Option, Some, IfSome}
use Rattle.csp_bench.specs.declared.status.TheConstants.{MAX_SCENARIO}

-- the bytes that the source has yet to give and how often it failed, and what was written and how often that failed
pub record Edge : Type 0 where
  pub left : Option (List ℕ)
  pub reading : ℕ
  pub written : Option (List ℕ)
  pub writing : ℕ

-- such an edge
abbrev pub edge : Option (List ℕ) → ℕ → Option (List ℕ) → ℕ → Edge
edge left reading written writing = record { left = left; reading = reading; written = written; writing = writing }

-- the source was read to its end, which came within the limit
abbrev pub WasRead : Option (List ℕ) → Option (List ℕ) → Type 0
WasRead left_old left_new = IfSome left_old (λ text. (length text ≤ MAX_SCENARIO) × (left_new ≡ Some []))
