use Rattle.std.proofs.Common.{sym, ◌∙◌, ap, map, arith, length-drop}
use Rattle.std.proofs.lemmas.List.{drop-map, take_all}
use Rattle.csp_scene.proofs.checks.past.Goals as goal

pub returns : goal.returns
returns c =
    ap (λ words. map (λ word. word.now) words) (take_all _ _ (omega (arith, length-drop c.args.count c.args.words.now))) ∙ sym (drop-map (λ word. word.now) c.args.count c.args.words.now)
