use Rattle.std.proofs.Common.{ℕ, List, ◌++◌, ◌∙◌, ap, append_assoc}
use Rattle.std.specs.Prelude.{codes}
use Rattle.std.specs.Fmt.{decimal}
use Rattle.std.specs.String.{string_bytes}
use Rattle.csp_picture.specs.Elements.{attribute, long, text_words}
use Rattle.csp_picture.proofs.elements.push_text_words.Goals as goal

pub returns : goal.returns
unfolding text_words
returns c =
    let s : List ℕ = string_bytes c.args.out.now in
    let words : List ℕ = c.args.words.now in
    let rest : List ℕ = codes ">" ++ (words ++ codes "</text>\n") in
    c.in_ok-push_words.ensures
    ∙ ap (λ (l : List ℕ). l ++ rest) (c.in_ok-push_measure.ensures ∙ ap (λ (n : ℕ). s ++ attribute (codes "textLength") (decimal n)) c.in_ok-length_of.ensures)
    ∙ append_assoc s (attribute (codes "textLength") (decimal (long words))) rest
