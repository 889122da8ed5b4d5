-- What a mode owes is what the one that the words ask for owes.
use Rattle.std.proofs.Common.{◌≡◌, ℕ, List, [], Option, Some, None, refl, sym, ◌∙◌, subst, arith}
use Rattle.csp_base.specs.Transfer.{TookAtMost}
use Rattle.csp_bench.specs.Edge.{Edge}
use Rattle.csp_bench.specs.declared.status.Status.{Status}
use Rattle.csp_trace.specs.Owes.{Owes}
use Rattle.csp_trace.specs.declared.mode.Mode.{Mode}

pub owes_named : (named : Option Mode) (a c : Mode) (old new : Edge) (answer : Status) → named ≡ Some a → named ≡ Some c → Owes a old new answer → Owes c old new answer
owes_named named a c old new answer e f owes =
    let both : Some a ≡ Some c = sym e ∙ f in
    let same : a ≡ c = cc in
    subst (λ (k : Mode). Owes k old new answer) same owes

-- of a source that was left as it is nothing was taken
pub took_none : (left : Option (List ℕ)) (most : ℕ) → TookAtMost left left most
took_none None most = ([], omega arith, tt)
took_none (Some bytes) most = ([], omega arith, refl)
