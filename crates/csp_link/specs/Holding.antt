-- the frames that a link holds, in the order of holding
use Rattle.std.specs.Prelude.{ℕ, Option, List, nat_le}
use Rattle.std.specs.List.{find, enumerate_from}
use Rattle.csp_link.specs.declared.held.Held.{Held}

-- the first that is due, with how many stand before it
abbrev pub first_due : ℕ → List Held → Option (ℕ × Held)
first_due now held = find (λ p. nat_le p.1.due now) (enumerate_from 0 held)
