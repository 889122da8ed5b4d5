use Rattle.std.proofs.Common.{rules}
use Rattle.csp_tap.proofs.Telling.{fed_none}
use Rattle.csp_tap.proofs.tap.Tap.open.Goals as goal

pub returns : goal.returns
returns c = fed_none c.args.cover _ (search rules) (search rules) (search rules) (search rules)
