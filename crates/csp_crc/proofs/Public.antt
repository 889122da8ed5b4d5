-- What other crates may cite of the proofs of this one.

-- A payload and its CRC, from the bytes that they stand in
pub use Rattle.csp_crc.proofs.Checked.{payload_of-right}
-- the division of lists of bits, as one of numbers
pub use Rattle.csp_crc.proofs.Division.{crc_of-left, crc_of-lt, length-bits_of, message_bits-cons, number_of-append}
-- the division on numbers: it goes through sums part by part, and through what stands higher later
pub use Rattle.csp_crc.proofs.Numbers.{place-even, place-odd, places-shifted, places-xor}
