-- What other crates may cite of the proofs of this one.

-- A slot that has a connection
pub use Rattle.csp_conn.proofs.Found.{is_between-open}
