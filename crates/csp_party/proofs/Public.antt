-- What other crates may cite of the proofs of this one.

-- a party over its plain state: what a turn makes of it, and what it reports
pub use Rattle.csp_party.proofs.Turned.{events_told, plain_told, stock_left}
