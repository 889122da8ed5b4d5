-- What other crates may cite of the proofs of this one.

-- what comes to an interface whose link does no harm: frames of the other ends' transmissions, as they were sent or with a flip that shows
pub use Rattle.csp_ordinary.proofs.Coming.{ShowsWithin, bus_piece, on_bus}
-- that no packet is counted as changed, where none that an interface put into an inbox is
pub use Rattle.csp_ordinary.proofs.Counting.{IsPacketWith, accepted_all}
-- on an ordinary link or hub each packet that an interface handed to its inbox is as it was sent, and so in an ordinary run none is counted as changed
pub use Rattle.csp_ordinary.proofs.Nothing.{link_there, on_link, run_on, sends}
