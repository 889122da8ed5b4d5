-- The division on numbers, whose lowest bit is the first.
use Rattle.std.specs.Prelude.{ℕ, ◌+◌, ◌*◌, ◌/◌, ◌%◌, ◌^◌, ◌==◌, if◌then◌else◌, List, [], ◌∷◌, ◌++◌, length, replicate, false, bit_xor}
use Rattle.std.proofs.Common.{zero, suc}
use Rattle.csp_crc.specs.Bits.{bits_of, number_of, message_bits}
use Rattle.csp_crc.specs.Crc.{remainder}

-- one place of the division: the first bit goes, and where it is 1 the polynomial is added to those after it
unfoldable pub place : ℕ → ℕ
place n = if n % 2 == 1 then bit_xor (n / 2) 0x82F63B78 else n / 2

-- so many places of it
unfoldable pub places : ℕ → ℕ → ℕ
places zero n = n
places (suc k) n = places k (place n)

-- what is left of a register after some bytes, to the first of which it is added
unfoldable pub left_after : ℕ → List ℕ → ℕ
left_after register bytes = places (8 * length bytes) (bit_xor register (number_of (message_bits bytes)))

-- the bits of some blocks of sixteen bytes, and of what comes later, as a number
unfoldable pub number_of_blocks : List (List ℕ) → ℕ → ℕ
number_of_blocks [] later = later
number_of_blocks (block ∷ blocks) later = number_of (message_bits block) + number_of_blocks blocks later * 2 ^ 128

-- what is left of a register after some blocks and so many places of what comes later
unfoldable pub left_of_blocks : ℕ → List (List ℕ) → ℕ → ℕ → ℕ
left_of_blocks register blocks places_left later = places (128 * length blocks + places_left) (bit_xor register (number_of_blocks blocks later))

-- the remainder of a byte with so many zero bytes after it
unfoldable pub byte_remainder : ℕ → ℕ → ℕ
byte_remainder zeros byte = number_of (remainder (bits_of 8 byte ++ replicate (8 * zeros + 32) false))
