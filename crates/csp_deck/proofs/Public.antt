-- What other crates may cite of the proofs of this one.

-- a run of a party's steps with one turn more
pub use Rattle.csp_deck.proofs.Keeping.{times-append}
