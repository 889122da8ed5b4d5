use Rattle.std.specs.Prelude.{ℕ, List, refl}
use Rattle.std.specs.Coded.{Coded, code_by, coded×, coded_ℕ, coded_list}

-- a bounded list: for how many elements it has room, and its elements, the first first
pub record PlainFifo (T : Type 0) : Type 0 where
  pub room : ℕ
  pub items : List T

-- how a proof tells bounded lists apart: by the pair of their fields
abbrev pub fifo_code : {T : Type 0} → Coded T → Coded (PlainFifo T)
fifo_code {T} code = code_by (ℕ × List T) (coded× coded_ℕ (coded_list code)) (λ f. (f.room, f.items)) (λ p. record { room = p.0; items = p.1 }) (λ _. refl)

-- the list with other elements
abbrev pub with_items : {T : Type 0} → PlainFifo T → List T → PlainFifo T
with_items f items = record { room = f.room; items = items }
