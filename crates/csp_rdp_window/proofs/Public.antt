-- What other crates may cite of the proofs of this one.

-- how often a number is in a list
pub use Rattle.csp_rdp_window.proofs.CountLemmas.{times-find}
-- the places of a window, one after the other
pub use Rattle.csp_rdp_window.proofs.PlaceLemmas.{first_held-at, found, held_in-few, held_in-none, held_in-whole, none-found, passed, set-item, take-all, take-item, whole-item, without_held-at}
