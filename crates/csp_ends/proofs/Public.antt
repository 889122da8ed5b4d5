-- What other crates may cite of the proofs of this one.

-- the end of another lane that the marks of an end tell of
pub use Rattle.csp_ends.proofs.Backs.{back_same, back_turned, tally_of, tally_picked}
-- what a turn keeps of what a party has in hand, whatever was asked and answered
pub use Rattle.csp_ends.proofs.Kept.{of_it_kept, room_kept, whole_kept}
-- what is known at a place of a list, and what is found in one
pub use Rattle.csp_ends.proofs.Lists.{all_at, all_from, first_of, get_within, none_of, up_to}
