-- What other crates may cite of the proofs of this one.

-- what came through each inbox is what its producers put, in their orders
pub use Rattle.csp_world.proofs.InboxLemmas.{entries_step, no_entries}
-- the log of each party is that of a run of its turns from its opening
pub use Rattle.csp_world.proofs.LoggedLemmas.{AreLogged}
-- the parties of a scene's opening world are those of the scene
pub use Rattle.csp_world.proofs.OpenedLemmas.{members_opened}
-- in each reached world each party has taken the turns of its log
pub use Rattle.csp_world.proofs.ReachedLemmas.{all_logged}
