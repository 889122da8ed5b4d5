-- What other crates may cite of the proofs of this one.

-- how often a number is in a list, and what the laws of lists and decks say of it
pub use Rattle.csp_nodes.proofs.CountLaws.{Gathers, Long, Weighs, times_joined}
-- as a node's lists open, its buffers are in its pool, and nothing was done with them
pub use Rattle.csp_nodes.proofs.ClosingBuffers.{fresh_len}
pub use Rattle.csp_nodes.proofs.Unused.{fresh_numbers, fresh_unused}
-- lists one of whose elements is changed
pub use Rattle.csp_nodes.proofs.SetLemmas.{set_here, set_same, set_there, set_twice, sum_set}
