use Rattle.std.proofs.Common.{rules, arith}
use Rattle.std.proofs.lemmas.Grind.{common_steps}
use Rattle.csp_scene.specs.Sketch.{with_link}
use Rattle.csp_scene.specs.Joining.{new_link}
use Rattle.csp_scene.proofs.Sketches.{kept_of, IsSketch-link}
use Rattle.csp_scene.proofs.sketch.Sketch.push_link.Goals as goal

pub returns-clause-kept : goal.returns-clause-kept
returns-clause-kept c =
    kept_of (with_link (new_link c.args.self.now.links c.args.name.bytes c.args.kind c.args.hub c.args.mtu c.args.places.now) c.args.self.now) _
    (IsSketch-link c.args.self.now c.args.name.bytes c.args.kind c.args.hub c.args.mtu c.args.places.now c.requires.kept c.requires.name c.requires.mtu c.requires.ends c.requires.apart c.requires.room)
    (first_of (search rules, grind (arith, common_steps)))
