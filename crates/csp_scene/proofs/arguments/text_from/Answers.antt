use Rattle.std.proofs.Common.{sym, ◌∙◌, ap, map, arith, length-drop}
use Rattle.std.specs.List.{flat_map}
use Rattle.std.proofs.lemmas.List.{drop-map, take_all}
use Rattle.csp_scene.specs.Arguments.{spaced}
use Rattle.csp_scene.proofs.arguments.text_from.Goals as goal

pub returns : goal.returns
returns c =
    c.loop-word.invariant
    ∙ ap (λ words. flat_map spaced (map (λ word. word.now) words)) (take_all _ _ c.loop-word-test.false ∙ take_all _ _ (omega (arith, length-drop c.args.place c.args.args.now)))
    ∙ ap (flat_map spaced) (sym (drop-map (λ word. word.now) c.args.place c.args.args.now))
