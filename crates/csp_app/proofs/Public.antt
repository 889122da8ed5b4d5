-- What other crates may cite of the proofs of this one.

-- the pieces of the blobs that steps send
pub use Rattle.csp_app.proofs.Blobs.{up_carries}
-- the bytes of the packets that steps send, and that `Up` carries these packets
pub use Rattle.csp_app.proofs.Bursts.{burst_length}
-- how often a number is among the buffers that an application holds
pub use Rattle.csp_app.proofs.Counting.{among, among_append, among_cons, holds_times}
-- the laws of a step: no buffer is lost or made, and the numbers that turns raise are raised by one at most
pub use Rattle.csp_app.proofs.StepLaws.{handed_law}
