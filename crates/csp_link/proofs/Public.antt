-- What other crates may cite of the proofs of this one.

-- a turn of a link makes of what it pops what the plan says, and loses nothing of what it holds
pub use Rattle.csp_link.proofs.Applying.{applies}
-- copies that are held one by one
pub use Rattle.csp_link.proofs.Copied.{one_more}
-- where the first held frame that is due stands
pub use Rattle.csp_link.proofs.Due.{due_inside, due_there, place_first_due}
-- a held frame that goes out, and that comes back into its place
pub use Rattle.csp_link.proofs.Kept.{Stands, stands}
-- the fates of a plan
pub use Rattle.csp_link.proofs.Named.{all_named, fates_are, most_at}
-- a link stays whole: what it holds is carried by its lanes, and each answer finds what it needs
pub use Rattle.csp_link.proofs.Sound.{IsFrameOf, taken_carried}
