use Rattle.std.proofs.Common.{length, ap, sym, ◌∙◌}
use Rattle.csp_text.proofs.Digits.{length-byte_digits, no_digits, own_digits}
use Rattle.csp_text.proofs.hexadecimal.byte_digits.Goals as goal

pub returns-then-has_no_bytes-clause-pairs : goal.returns-then-has_no_bytes-clause-pairs
returns-then-has_no_bytes-clause-pairs c =
    ap length (no_digits c.args.word.now (sym c.has_no_bytes.ensures ∙ c.if-has_no_bytes.true)) ∙ length-byte_digits c.args.word.now c.requires

pub returns-clause-pairs : goal.returns-clause-pairs
returns-clause-pairs c =
    ap length (own_digits c.args.word.now (sym c.has_no_bytes.ensures ∙ c.if-has_no_bytes.false)) ∙ length-byte_digits c.args.word.now c.requires
