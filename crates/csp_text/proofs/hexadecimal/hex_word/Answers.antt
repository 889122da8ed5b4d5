use Rattle.std.proofs.Common.{sym, ◌∙◌}
use Rattle.csp_text.proofs.Digits.{hex_word_reads}
use Rattle.csp_text.proofs.hexadecimal.hex_word.Goals as goal

pub unreachable-requires : goal.unreachable-requires
unreachable-requires c =
    let read = hex_word_reads c.args.word.now c.from_str_radix.result c.requires (rw c.text.ensures at c.from_str_radix.ensures.value) in
    cc (sym c.in-Err.is ∙ read)
