use Rattle.std.proofs.Common.{sym, arith}
use Rattle.std.specs.String.{string_bytes}
use Rattle.csp_words.proofs.Rows.{other_count}
use Rattle.csp_words.proofs.words.named.Goals as goal

pub returns-in_default : goal.returns-in_default
returns-in_default c = sym (other_count string_bytes c.args.words.now (λ e. omega arith) (λ e. omega arith) (λ e. omega arith))

pub returns-in_default-2 : goal.returns-in_default-2
returns-in_default-2 c = sym (other_count string_bytes c.args.words.now (λ e. omega arith) (λ e. omega arith) (λ e. omega arith))
