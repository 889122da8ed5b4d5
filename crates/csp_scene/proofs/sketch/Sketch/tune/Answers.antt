use Rattle.std.proofs.Common.{rules, arith}
use Rattle.std.proofs.lemmas.Grind.{common_steps}
use Rattle.csp_scene.specs.Transport.{with_rdp_at}
use Rattle.csp_scene.proofs.Sketches.{kept_of, IsSketch-rdp}
use Rattle.csp_scene.proofs.sketch.Sketch.tune.Goals as goal

pub returns-clause-kept : goal.returns-clause-kept
returns-clause-kept c =
    kept_of (with_rdp_at c.args.place c.args.options c.args.self.now) _
    (IsSketch-rdp c.args.self.now c.args.place c.args.options c.requires.kept c.requires.node c.requires.options)
    (first_of (search rules, grind (arith, common_steps)))
