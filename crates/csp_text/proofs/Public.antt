-- What other crates may cite of the proofs of this one.

-- words whose bytes pass a test of ASCII bytes are ASCII, and what `parse` reads in digits
pub use Rattle.csp_text.proofs.Bytes.{own}
