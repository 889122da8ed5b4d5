use Rattle.csp_top.proofs.Prefix.{are_numbered, prefixes}
use Rattle.csp_top.proofs.laws.tells_reliable_prefix.Goals as goal

pub returns : goal.returns
returns c scene r is apart are whole tell readable first =
    c.tells_prefix.ensures scene r is whole apart (are_numbered scene r are readable tell) (λ stale passed. prefixes scene r are readable (first stale passed))
