use Rattle.std.proofs.Common.{rules}
use Rattle.csp_link.proofs.Public.{most_at}
use Rattle.csp_hub.proofs.fates.Fates.of.Goals as goal

pub returns-in-Some-clause-most : goal.returns-in-Some-clause-most
returns-in-Some-clause-most c = most_at c.args.self.now c.args.frame c.in-Some.fate.now (search rules)
