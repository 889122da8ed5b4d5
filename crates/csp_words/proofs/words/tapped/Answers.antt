use Rattle.std.proofs.Common.{sym}
use Rattle.std.specs.Prelude.{codes}
use Rattle.csp_words.proofs.Rows.{differs, no_header}
use Rattle.csp_words.proofs.words.tapped.Goals as goal

pub returns-else-eq : goal.returns-else-eq
returns-else-eq c =
    sym (no_header c.args.option.now (differs c.args.option.now (codes "--header") c.as_slice.result.now c.eq.result c.eq.ensures c.as_slice.ensures c.if-eq.false))
