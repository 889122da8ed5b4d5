use Rattle.std.proofs.Common.{ap, ◌∙◌, arith, rules}
use Rattle.std.proofs.lemmas.Grind.{common_steps}
use Rattle.csp_header.specs.Word.{header_at, IsInRange}
use Rattle.csp_header.proofs.WordLaws.{header_at-word_of}
use Rattle.csp_header.proofs.word.Header.encode.Goals as goal

pub returns-clause-fields : goal.returns-clause-fields
returns-clause-fields c =
    let r : IsInRange c.args.self = search rules in
    ap header_at (grind (arith, common_steps)) ∙ header_at-word_of c.args.self r
