use Rattle.std.proofs.Common.{rules, arith}
use Rattle.std.proofs.lemmas.Grind.{common_steps}
use Rattle.csp_scene.specs.Sketch.{with_node}
use Rattle.csp_scene.proofs.Sketches.{kept_of, IsSketch-node}
use Rattle.csp_scene.proofs.sketch.Sketch.push_node.Goals as goal

pub returns-clause-kept : goal.returns-clause-kept
returns-clause-kept c =
    kept_of (with_node c.args.node c.args.self.now) _
    (IsSketch-node c.args.self.now c.args.node c.requires.kept c.requires.node c.requires.fresh c.requires.room)
    (first_of (search rules, grind (arith, common_steps)))
