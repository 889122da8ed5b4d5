-- What other crates may cite of the proofs of this one.

-- what is written in decimal digits is read as the same number, and the other way round
pub use Rattle.csp_gen.proofs.Decimals.{decimal-number_of, is_decimal-decimal, number_of-decimal}
