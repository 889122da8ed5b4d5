use Rattle.std.proofs.Common.{sym, ◌∙◌}
use Rattle.csp_text.proofs.Bytes.{IsAscii-name}
use Rattle.csp_text.proofs.naming.name.Goals as goal

pub text-requires : goal.text-requires
text-requires c = IsAscii-name c.args.word.now (sym c.is_name.ensures ∙ c.if-not-is_name.false)
