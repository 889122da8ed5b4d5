-- What other crates may cite of the proofs of this one.

-- what meetings keep
pub use Rattle.csp_meeting.proofs.Keeping.{marked, of_it, traced, whole}
