-- What other crates may cite of the proofs of this one.

-- A frame's answer is Whole exactly where it makes its key's list a chain
pub use Rattle.csp_can.proofs.Sound.{begin_by, measured_by, more_by}
-- the frames of a packet are a chain
pub use Rattle.csp_can.proofs.Whole.{fragments_read}
