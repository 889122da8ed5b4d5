use Rattle.std.proofs.Common.{rules}
use Rattle.csp_ring.proofs.Findings.{finds_full}
use Rattle.csp_ring.proofs.shapes.RuledRing.head_if_full.Goals as goal

pub load-requires : goal.load-requires
load-requires g c = (search rules, search rules, finds_full _ g.M.Finding.found _ _ _ (search rules) (search rules))
