-- One bit of some bytes turned over.
use Rattle.std.specs.Prelude.{◌≡◌, ℕ, ◌*◌, ◌/◌, ◌%◌, ◌^◌, ◌<◌, List, length, slice_index, slice_set}
use Rattle.std.specs.Int.Bits.{bit_xor}

-- some bytes with one bit turned over: bit 0 is the top bit of the first byte, which counts 128; where there is no such bit nothing changes
abbrev pub flipped : (bit : ℕ) → List ℕ → List ℕ
flipped bit bytes = slice_set bytes (bit / 8) (bit_xor (slice_index bytes (bit / 8)) (128 / 2 ^ (bit % 8)))

-- two lists of one length differ in one bit: the second is the first with one of its bits turned over
pub record DifferInOneBit (xs ys : List ℕ) : Type 0 where
  pub bit : ℕ
  pub there : bit < 8 * length xs
  pub other : ys ≡ flipped bit xs
