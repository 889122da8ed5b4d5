-- a priority and its number
use Rattle.std.proofs.Common.{◌≡◌, ℕ, ◌<◌, zero, suc, refl, arith}
use Rattle.csp_base.specs.declared.priority.Prio.{Prio}
use Rattle.csp_base.specs.declared.priority.Prio.TheVariants.{Critical, High, Normal, Low}
use Rattle.csp_base.specs.Priority.{prio_number, prio_of}

pub prio_of-prio_number : (p : Prio) → prio_of (prio_number p) ≡ p
prio_of-prio_number Critical = refl
prio_of-prio_number High = refl
prio_of-prio_number Normal = refl
prio_of-prio_number Low = refl

pub prio_number-prio_of : (n : ℕ) → n < 4 → prio_number (prio_of n) ≡ n
prio_number-prio_of zero h = refl
prio_number-prio_of (suc zero) h = refl
prio_number-prio_of (suc (suc zero)) h = refl
prio_number-prio_of (suc (suc (suc n))) h = omega arith

pub prio_number_small : (p : Prio) → prio_number p < 4
prio_number_small Critical = omega arith
prio_number_small High = omega arith
prio_number_small Normal = omega arith
prio_number_small Low = omega arith
