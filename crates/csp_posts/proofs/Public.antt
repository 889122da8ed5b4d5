-- What other crates may cite of the proofs of this one.

-- what goes through the ends of lanes in turns is what the lanes carry, and a push is refused only after as many puts as there is room for
pub use Rattle.csp_posts.proofs.Crossing.{after_append, pushes, turns_full, turns_through}
-- turns of a party: one, and more of them; and what they keep
pub use Rattle.csp_posts.proofs.Turning.{turns_early, turns_got, turns_post, turns_still}
