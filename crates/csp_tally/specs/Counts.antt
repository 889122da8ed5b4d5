-- What a tally, its tickets and its witnesses own: an entry for each number, which can be raised once, from 0 to 1.
use Rattle.std.specs.Prelude.{ℕ, zero, suc}
use mathlib.Core.Option.{Option, none, some}
use base.Fraction.{full_share}
use base.Fml.{Share, Fml, fsep, fex}
use base.Algebra.{Algebra}
use base.Growing.{numbers, growing}
use types.Keyed.{entry, entries_from}

-- what an entry may hold: perhaps the right to raise it, and what it has reached
abbrev pub Entry : Type 0
Entry = Option Share × ℕ

-- how two parts of one entry add up: who has the right to raise it holds the greatest value
abbrev pub raises : Algebra
raises = growing numbers

-- an entry that can still be raised
abbrev pub unused : Entry
unused = (some full_share, 0)

-- that an entry was raised
abbrev pub was_used : Entry
was_used = (none, 1)

-- the right to use the number, which nobody else has
unfoldable pub ticket_owns : ℕ → ℕ → Fml
ticket_owns name number = entry raises name number unused

-- that the number was used, which may be known twice
unfoldable pub witness_owns : ℕ → ℕ → Fml
witness_owns name number = entry raises name number was_used

-- the rights to all numbers from this one on, of which the first few are back in hand one by one
abbrev pub rights_from : ℕ → ℕ → ℕ → Fml
rights_from name number zero = entries_from raises name number (λ _. unused)
rights_from name number (suc back) = fsep (ticket_owns name number) (rights_from name (suc number) back)

-- the rights to all numbers that are not handed out
unfoldable pub tally_owns : ℕ → ℕ → Fml
tally_owns name count = fex ℕ (rights_from name count)
