-- When a source or a sink may refuse: only where its count of faults rose in the call.
use Rattle.std.specs.Prelude.{◌≡◌, ℕ, ◌-◌, ◌^◌, ◌<◌, ◌≤◌, ◌⊎◌, Result, OnOk, OnErr}

-- a count of faults is greater after the call than before, or stands at the last value of a counter
abbrev pub Rose : ℕ → ℕ → Type 0
Rose old new = (old < new) ⊎ (new ≡ 2 ^ 64 - 1)

-- the count never falls, a call that was served leaves it as it was, and a refusal comes only where it rose
abbrev pub HasCause : {A E : Type 0} → ℕ → ℕ → Result A E → Type 0
HasCause old new r = (old ≤ new) × OnOk r (new ≡ old) × OnErr r (Rose old new)
