-- The marks of items: how many items of another lane the sender of each had got.
use Rattle.std.specs.Prelude.{◌≤◌, ⊤, ℕ, ◌+◌, Option, None, Some, List, [], ◌∷◌}
use Rattle.csp_tally.specs.declared.tally.Witness.{Witness}

-- how many numbers of a tally were used, up to this one: none before the first
abbrev pub reached : Option Witness → ℕ
reached None = 0
reached (Some w) = w.number + 1

-- the mark of an item whose sender had got so many: only a lane that tells of another has marks
abbrev pub marks_in : Option ℕ → ℕ → List ℕ
marks_in None n = []
marks_in (Some _) n = n ∷ []

-- each of these marks, from the first on, is at most the bound beside it; there is none without a mark
abbrev pub AreHeeded : (marks bounds : List ℕ) → Type 0
AreHeeded marks [] = ⊤
AreHeeded [] (n ∷ bounds) = ⊥
AreHeeded (m ∷ marks) (n ∷ bounds) = (m ≤ n) × AreHeeded marks bounds
