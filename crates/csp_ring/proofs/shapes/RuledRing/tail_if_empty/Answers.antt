use Rattle.std.proofs.Common.{rules}
use Rattle.csp_ring.proofs.Findings.{finds_empty}
use Rattle.csp_ring.proofs.shapes.RuledRing.tail_if_empty.Goals as goal

pub load-requires : goal.load-requires
load-requires g c = (search rules, search rules, finds_empty _ g.M.Finding.found _ _ _ (search rules) (search rules))
