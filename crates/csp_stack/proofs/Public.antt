-- What other crates may cite of the proofs of this one.

-- no buffer is lost and none is used twice: what a router holds, counted, and what the steps of its state keep
pub use Rattle.csp_stack.proofs.Keeping.{absorbed_keeps, addressed_number, headed_number, holds_apart, kept_keeps, leaving_keeps, spent_keeps, times_both}
-- what is told of a state that had not changed
pub use Rattle.csp_stack.proofs.Unmoved.{by_rest, heard_here}
