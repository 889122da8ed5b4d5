-- What other crates may cite of the proofs of this one.

-- where the pieces of a blob stand
pub use Rattle.csp_sfp.proofs.Cutting.{has_pieces}
