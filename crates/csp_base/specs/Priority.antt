use Rattle.std.specs.Prelude.{ℕ, zero, suc}
use Rattle.csp_base.specs.declared.priority.Prio.{Prio}
use Rattle.csp_base.specs.declared.priority.Prio.TheVariants.{Critical, High, Normal, Low}

-- the number of a priority in the header: 0 critical, 1 high, 2 normal, 3 low
abbrev pub prio_number : Prio → ℕ
prio_number Critical = 0
prio_number High = 1
prio_number Normal = 2
prio_number Low = 3

-- the priority with a number of 0 to 3
abbrev pub prio_of : ℕ → Prio
prio_of zero = Critical
prio_of (suc zero) = High
prio_of (suc (suc zero)) = Normal
prio_of (suc (suc (suc _))) = Low
