-- What a reader of parts has left.
use Rattle.std.specs.Prelude.{ℕ, ◌+◌, ◌<◌, ◌^◌, List, [], length, Option, None, Some}
use Rattle.std.specs.Borrow.{Bor}
use Rattle.csp_route.specs.Parts.{Part, parts_of}

-- the parts of what is left of a text, where something is left, even if it has no byte
abbrev pub parts_left : ℕ → ℕ → Option (Bor (List ℕ)) → List Part
parts_left separator at None = []
parts_left separator at (Some rest) = parts_of separator at rest.now

-- the end of the text is a place
abbrev pub FitsMemory : ℕ → Option (Bor (List ℕ)) → Type 0
FitsMemory at None = Unit {0}
FitsMemory at (Some rest) = at + length rest.now < 2 ^ 63
