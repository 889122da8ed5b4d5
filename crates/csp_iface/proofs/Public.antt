-- What other crates may cite of the proofs of this one.

-- how often a number is among the buffers that an interface holds
pub use Rattle.csp_iface.proofs.Counting.{among, holds_times}
-- the laws of a step: no buffer is lost or made, and what an interface uses stays
pub use Rattle.csp_iface.proofs.StepLaws.{handed_law}
