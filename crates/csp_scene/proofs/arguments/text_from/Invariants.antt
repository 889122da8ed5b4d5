use Rattle.std.proofs.Common.{◌≡◌, map, take}
use Rattle.std.specs.List.{flat_map}
use Rattle.csp_scene.specs.Arguments.{spaced}
use Rattle.csp_scene.proofs.arguments.text_from.Given as goal

abbrev pub invariant-loop-word : goal.invariant-loop-word
invariant-loop-word l = l.text.items ≡ flat_map spaced (map (λ word. word.now) (take l.word-index l.word-items))
