use Rattle.std.proofs.Common.{rules, arith}
use Rattle.std.proofs.lemmas.Grind.{common_steps}
use Rattle.csp_scene.specs.Nodes.{with_app_at}
use Rattle.csp_scene.proofs.Sketches.{kept_of, IsSketch-app}
use Rattle.csp_scene.proofs.sketch.Sketch.push_app.Goals as goal

pub returns-clause-kept : goal.returns-clause-kept
returns-clause-kept c =
    kept_of (with_app_at c.args.place c.args.app c.args.self.now) _
    (IsSketch-app c.args.self.now c.args.place c.args.app c.requires.kept c.requires.node c.requires.router c.requires.app c.requires.room)
    (first_of (search rules, grind (arith, common_steps)))
