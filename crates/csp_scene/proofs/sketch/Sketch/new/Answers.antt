use Rattle.csp_scene.proofs.Sketches.{kept_of, IsSketch-none}
use Rattle.csp_scene.specs.Sketch.{no_sketch}
use Rattle.csp_scene.proofs.sketch.Sketch.new.Goals as goal

pub returns-clause-kept : goal.returns-clause-kept
returns-clause-kept c = kept_of no_sketch _ IsSketch-none (cc)
