-- What other crates may cite of the proofs of this one.

-- what a log's entries tell, read with the ordinals that the slots have there: all at once, or one entry after the other
pub use Rattle.csp_record.proofs.Ordinals.{Ends, ended, no_ends, on_are, openings_after, openings_are, payloads_after, payloads_are, told_after}
-- what is read of a log where its reader passes over idle entries
pub use Rattle.csp_record.proofs.Passing.{dropped-over, taken-over}
