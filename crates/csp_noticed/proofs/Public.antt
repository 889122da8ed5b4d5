-- What other crates may cite of the proofs of this one.

-- A frame, and a frame of which one plain bit was turned over, as a reader takes it
pub use Rattle.csp_noticed.proofs.WholeFrames.{frame-noticed, frame-read, frame-skipped}
