-- CRC-32C as the remainder of a division of polynomials over bits.
use Rattle.std.specs.Prelude.{ℕ, ◌-◌, Bool, true, false, not, if◌then◌else◌, List, [], ◌∷◌, ◌++◌, length, map, take, drop, replicate}
use Rattle.std.proofs.Common.{zero, suc}
use Rattle.std.specs.Int.{w32, to_be_bytes}
use Rattle.csp_crc.specs.Bits.{bits_of, number_of, message_bits, plus}

-- the divisor, a list of 33 bits: 1, and then the bits of the reflected polynomial from the lowest up
unfoldable pub divisor : List Bool
divisor = true ∷ bits_of 32 0x82F63B78

-- what is left of a dividend after so many places of long division:
-- where the first bit is 1 the divisor is taken off the front, and the first bit, which is 0 then, is dropped
unfoldable pub divided : ℕ → List Bool → List Bool
divided zero bits = bits
divided (suc places) [] = []
divided (suc places) (bit ∷ bits) = divided places (drop 1 (if bit then plus divisor (bit ∷ bits) else bit ∷ bits))

-- the remainder: the division goes on until 32 bits are left
unfoldable pub remainder : List Bool → List Bool
remainder dividend = divided (length dividend - 32) dividend

-- the dividend: the message's bits and 32 zero bits, of which whole list the first 32 are inverted
unfoldable pub dividend_of : List ℕ → List Bool
dividend_of message = let bits = message_bits message ++ replicate 32 false in map not (take 32 bits) ++ drop 32 bits

-- CRC-32C: the remainder inverted, its first bit the lowest of the number
unfoldable pub crc_of : List ℕ → ℕ
crc_of message = number_of (map not (remainder (dividend_of message)))

-- the checked payload: a message followed by the four bytes of its CRC, the most significant first
unfoldable pub checked : List ℕ → List ℕ
checked message = message ++ to_be_bytes w32 (crc_of message)
