use Rattle.std.proofs.Common.{List, ℕ, [], ◌∷◌, ◌++◌, ap, sym, ◌∙◌, append_assoc}
use Rattle.csp_tap.proofs.Digits.{encode_one}
use Rattle.csp_tap.proofs.words.put_pair.Goals as goal

pub returns-clause-items : goal.returns-clause-items
returns-clause-items c =
    let items : List ℕ = c.args.line.now.items in
    c.push-2.ensures.items
    ∙ ap (λ ds. ds ++ c.digit-2.result ∷ []) c.push.ensures.items
    ∙ append_assoc items (c.digit.result ∷ []) (c.digit-2.result ∷ [])
    ∙ (λ i. items ++ c.digit.ensures i ∷ c.digit-2.ensures i ∷ [])
    ∙ ap (λ ds. items ++ ds) (sym (encode_one c.args.byte))
