use Rattle.std.proofs.Common.{sym}
use Rattle.std.specs.Prelude.{codes}
use Rattle.csp_words.proofs.Rows.{differs, other_option}
use Rattle.csp_words.proofs.words.of_three.Goals as goal
use Rattle.csp_words.proofs.words.of_three.Goals.{else-eq-via-then-eq+else-eq-2, else-eq-via-else-eq}

pub returns-else-eq : goal.returns-else-eq
returns-else-eq c =
    sym (other_option c.args.word.now c.args.option.now c.args.digits.now (λ both.
    elim c.else-eq.branch [
      | else-eq-via-then-eq+else-eq-2 w ↦ differs c.args.option.now (codes "--workers") w.as_slice-then-eq.result.now w.eq-then-eq.result w.eq-then-eq.ensures w.as_slice-then-eq.ensures w.if-eq-2.false both.1
      | else-eq-via-else-eq w ↦ differs c.args.word.now (codes "run") c.as_slice.result.now c.eq.result c.eq.ensures c.as_slice.ensures w.if-eq.false both.0
    ]))
