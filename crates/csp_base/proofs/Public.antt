-- What other crates may cite of the proofs of this one.

-- a priority and its number
pub use Rattle.csp_base.proofs.PriorityLaws.{prio_number-prio_of, prio_number_small, prio_of-prio_number}
-- integers modulo 65,536, and the index that a number shows near another
pub use Rattle.csp_base.proofs.SequenceLaws.{near_is, wrapped_is, wrapped_small}
