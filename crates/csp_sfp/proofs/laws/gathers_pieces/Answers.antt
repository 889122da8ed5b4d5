use Rattle.csp_sfp.proofs.Feeding.{answers_so, gathers}
use Rattle.csp_sfp.proofs.laws.gathers_pieces.Goals as goal

pub returns-clause-blob : goal.returns-clause-blob
returns-clause-blob c = gathers

pub returns-clause-answers : goal.returns-clause-answers
returns-clause-answers c = answers_so
