-- What a command owes is what the one that the words name owes.
use Rattle.std.proofs.Common.{◌≡◌, Result, Ok, sym, ◌∙◌, subst}
use Rattle.csp_bench.specs.Edge.{Edge}
use Rattle.csp_top.specs.Owes.{Owes}
use Rattle.csp_bench.specs.declared.status.Status.{Status}
use Rattle.csp_words.specs.declared.grammar.Command.{Command}
use Rattle.csp_words.specs.declared.grammar.WordsError.{WordsError}

pub owes_named : (named : Result Command WordsError) (a c : Command) (old new : Edge) (answer : Status) → named ≡ Ok a → named ≡ Ok c → Owes a old new answer → Owes c old new answer
owes_named named a c old new answer e f owes =
    let both : Ok a ≡ Ok c = sym e ∙ f in
    let same : a ≡ c = cc in
    subst (λ (k : Command). Owes k old new answer) same owes
