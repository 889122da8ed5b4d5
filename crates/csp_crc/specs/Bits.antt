-- Numbers and messages as lists of bits, the lowest bit of each number first.
use Rattle.std.specs.Prelude.{ℕ, ◌+◌, ◌*◌, ◌/◌, ◌%◌, ◌==◌, Bool, if◌then◌else◌, List, [], ◌∷◌}
use Rattle.std.proofs.Common.{zero, suc}
use Rattle.std.specs.Bool.{xor}
use Rattle.std.specs.List.{flat_map}

-- the lowest k bits of a number, the lowest first
unfoldable pub bits_of : ℕ → ℕ → List Bool
bits_of zero n = []
bits_of (suc k) n = (n % 2 == 1) ∷ bits_of k (n / 2)

-- the number whose bits these are, the lowest first
unfoldable pub number_of : List Bool → ℕ
number_of [] = 0
number_of (bit ∷ bits) = (if bit then 1 else 0) + 2 * number_of bits

-- the bits of a message: of each byte in order, its lowest first
unfoldable pub message_bits : List ℕ → List Bool
message_bits message = flat_map (bits_of 8) message

-- the first bits of a list, with others added to them bit by bit, without carries
unfoldable pub plus : List Bool → List Bool → List Bool
plus [] bits = bits
plus (other ∷ others) [] = []
plus (other ∷ others) (bit ∷ bits) = xor other bit ∷ plus others bits
