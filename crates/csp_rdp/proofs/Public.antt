-- What other crates may cite of the proofs of this one.

-- a connection neither loses nor doubles a buffer
pub use Rattle.csp_rdp.proofs.BalanceLemmas.{admitted-balanced, again-balanced, delivery-balanced, handed-balanced, missing-taken, numbers-closed, numbers-delivered, numbers-sent, numbers-ticked, parted-balanced, whole-again, whole-delivered, whole-handed, whole-out, whole-rested, whole-taken}
-- how many packets went through a connection
pub use Rattle.csp_rdp.proofs.FarLemmas.{far-after, far-closed, far-delivered, far-rested, far-sent, far-taken, far-taken-out, far-ticked}
-- what a connection holds, and what it does not need any more
pub use Rattle.csp_rdp.proofs.HoldingLemmas.{numbers-buffers, rested-still}
-- a connection whose buffers lie in another region makes the same steps
pub use Rattle.csp_rdp.proofs.PlacedLemmas.{placed-buffers, placed-out, placed-rdp-numbers, placed-unneeded}
-- the buffers of a connection stay in their region
pub use Rattle.csp_rdp.proofs.RegionLemmas.{in-buffers, in-taken-out}
-- what a row says of the packet that comes to it
pub use Rattle.csp_rdp.proofs.RowLemmas.{data-fresh, entered-recv}
-- the timer changes a connection exactly where it times out
pub use Rattle.csp_rdp.proofs.TimerLemmas.{in_time}
