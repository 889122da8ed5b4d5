-- What other crates may cite of the proofs of this one.

-- a turn of a hub makes of what it pops what the plan says, and loses nothing of what it holds
pub use Rattle.csp_hub.proofs.Applying.{applies}
-- what a turn leaves of the ends of a hub as it was
pub use Rattle.csp_hub.proofs.Ends.{as_many, count_opening, fates_asked, fates_tells}
-- a hub stays whole: its lanes carry what it holds, and each answer finds what it needs
pub use Rattle.csp_hub.proofs.Sound.{next_there}
