use Rattle.std.proofs.Common.{rules, arith}
use Rattle.std.proofs.lemmas.Grind.{common_steps}
use Rattle.csp_app.specs.Placing.{plain_step}
use Rattle.csp_scene.specs.Nodes.{with_step_at}
use Rattle.csp_scene.proofs.Sketches.{kept_of, IsSketch-step}
use Rattle.csp_scene.proofs.sketch.Sketch.push_step.Goals as goal

pub returns-clause-kept : goal.returns-clause-kept
returns-clause-kept c =
    kept_of (with_step_at c.args.place (plain_step c.args.step.now) c.args.self.now) _
    (IsSketch-step c.args.self.now c.args.place (plain_step c.args.step.now) c.requires.kept c.requires.node c.requires.app c.requires.step c.requires.apart c.requires.room)
    (first_of (search rules, grind (arith, common_steps)))
