use Rattle.csp_standing.proofs.Opening.{fresh_books}
use Rattle.csp_standing.proofs.laws.opens_books.Goals as goal

pub returns : goal.returns
returns c = fresh_books
