-- What other crates may cite of the proofs of this one.

-- a header and its word
pub use Rattle.csp_header.proofs.WordLaws.{header_at-word_of}
