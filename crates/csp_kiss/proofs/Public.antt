-- What other crates may cite of the proofs of this one.

-- reading on, one byte after the other
pub use Rattle.csp_kiss.proofs.GoingOn.{ended, going_on, read_step}
-- only the first bytes of a piece count, and what they are judged to be
pub use Rattle.csp_kiss.proofs.Judging.{compared-right, compared-wrong, judged-joined, judged-long, judged-parts, judged-short, judged-take, kept_none, take-take-append, take_all}
-- A byte more: what a reader keeps, and what the events of the whole stream gain
pub use Rattle.csp_kiss.proofs.Steps.{answers-unread, events-more, reading_of-push}
