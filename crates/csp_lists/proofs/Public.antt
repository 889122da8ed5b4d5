-- What other crates may cite of the proofs of this one.

-- what stands at a place of the list of a deck's queues has that position
pub use Rattle.csp_lists.proofs.Positions.{position}
-- the queues of a deck stand where their places say
pub use Rattle.csp_lists.proofs.Standing.{place_there}
