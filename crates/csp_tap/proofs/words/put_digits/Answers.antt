use Rattle.std.proofs.Common.{List, ℕ, ◌+◌, ◌/◌, ◌%◌, [], ◌∷◌, ◌++◌, ap, sym, ◌∙◌, arith, append_assoc}
use Rattle.csp_tap.proofs.Digits.{two_digits}
use Rattle.csp_tap.proofs.words.put_digits.Goals as goal

pub returns-then-number-lt100-clause-items : goal.returns-then-number-lt100-clause-items
returns-then-number-lt100-clause-items c =
    let n : ℕ = c.args.number in
    let items : List ℕ = c.args.line.now.items in
    let two = two_digits n (omega (arith, c.if-number-lt10.false)) (omega (arith, c.if-number-lt100.true)) in
    c.push-then-number-lt100-2.ensures.items
    ∙ ap (λ ds. ds ++ (48 + n % 10) ∷ []) c.push-then-number-lt100.ensures.items
    ∙ append_assoc items ((48 + n / 10) ∷ []) ((48 + n % 10) ∷ [])
    ∙ ap (λ ds. items ++ ds) (sym two)
