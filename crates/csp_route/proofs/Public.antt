-- What other crates may cite of the proofs of this one.

-- the order of prefixes is total, and only equal prefixes tie
pub use Rattle.csp_route.proofs.PrefixOrder.{prefix_total}
-- rows lead to interfaces that are there: through a look-up, a put, and a text that is read
pub use Rattle.csp_route.proofs.Withins.{row_within}
