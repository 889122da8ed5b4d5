use Rattle.csp_report.proofs.PrefixText.{text_tells}
use Rattle.csp_report.proofs.laws.tells_prefix.Goals as goal

pub returns : goal.returns
returns c = text_tells
