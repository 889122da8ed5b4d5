use Rattle.std.proofs.Common.{rules, arith}
use Rattle.std.proofs.lemmas.Grind.{common_steps}
use Rattle.csp_scene.proofs.Scenes.{scene_with, IsScene-from_sketch, scene_kept}
use Rattle.csp_scene.proofs.sketch.Sketch.finish.Goals as goal

pub returns-in-Ok-clause-kept : goal.returns-in-Ok-clause-kept
returns-in-Ok-clause-kept c =
    scene_kept (scene_with c.args.self c.in-Some.until) _
    (IsScene-from_sketch c.args.self c.in-Some.until c.requires (first_of (search rules, grind (arith, common_steps))) (first_of (search rules, grind (arith, common_steps))))
    (first_of (search rules, grind (arith, common_steps)))
