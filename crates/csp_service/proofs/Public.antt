-- What other crates may cite of the proofs of this one.

-- the rows of a routing table lead to interfaces that are there, also after a request
pub use Rattle.csp_service.proofs.Leading.{answered_leads}
