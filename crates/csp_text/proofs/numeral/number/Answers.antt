use Rattle.std.proofs.Common.{sym, ◌∙◌}
use Rattle.csp_text.proofs.Bytes.{IsAscii-decimal, number_gives}
use Rattle.csp_text.proofs.numeral.number.Goals as goal

pub text-requires : goal.text-requires
text-requires c = IsAscii-decimal c.args.word.now (sym c.is_decimal.ensures ∙ c.if-not-is_decimal.false)

pub returns : goal.returns
returns c =
    rw c.ok.ensures.value
    (number_gives c.args.word.now c.parse.result (sym c.is_decimal.ensures ∙ c.if-not-is_decimal.false) (rw c.text.ensures at c.parse.ensures.value.0))
