use Rattle.std.proofs.Common.{rules}
use Rattle.std.proofs.lemmas.Fmt.{digits_decimal}
use Rattle.csp_text.proofs.Bytes.{own}
use Rattle.csp_text.proofs.numeral.push_number.Goals as goal

pub returns-in-Ok-clause-digits : goal.returns-in-Ok-clause-digits
returns-in-Ok-clause-digits c = search (rules, digits_decimal own)

pub returns-in-Err-clause-digits : goal.returns-in-Err-clause-digits
returns-in-Err-clause-digits c = search (rules, digits_decimal own)
