use Rattle.std.proofs.Common.{rules, arith}
use Rattle.std.proofs.lemmas.Grind.{common_steps}
use Rattle.csp_scene.specs.Faults.{with_fault_at}
use Rattle.csp_scene.proofs.Sketches.{kept_of, IsSketch-fault}
use Rattle.csp_scene.proofs.sketch.Sketch.push_fault.Goals as goal

pub returns-clause-kept : goal.returns-clause-kept
returns-clause-kept c =
    kept_of (with_fault_at c.args.place c.args.fault c.args.self.now) _
    (IsSketch-fault c.args.self.now c.args.place c.args.fault c.requires.kept c.requires.link c.requires.fault c.requires.room)
    (first_of (search rules, grind (arith, common_steps)))
