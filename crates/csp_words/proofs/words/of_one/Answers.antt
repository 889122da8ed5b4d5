use Rattle.std.proofs.Common.{sym}
use Rattle.std.specs.Prelude.{codes}
use Rattle.csp_words.proofs.Rows.{differs, other_word}
use Rattle.csp_words.proofs.words.of_one.Goals as goal

pub returns-else-eq-3 : goal.returns-else-eq-3
returns-else-eq-3 c =
    sym (other_word c.args.word.now
    (differs c.args.word.now (codes "sim") c.as_slice.result.now c.eq.result c.eq.ensures c.as_slice.ensures c.if-eq.false)
    (differs c.args.word.now (codes "run") c.as_slice-else-eq.result.now c.eq-else-eq.result c.eq-else-eq.ensures c.as_slice-else-eq.ensures c.if-eq-2.false)
    (differs c.args.word.now (codes "tap") c.as_slice-else-eq-2.result.now c.eq-else-eq-2.result c.eq-else-eq-2.ensures c.as_slice-else-eq-2.ensures c.if-eq-3.false))
