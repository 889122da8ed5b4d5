use Rattle.std.proofs.Common.{◌<◌, [], length, rules, arith}
use Rattle.std.proofs.lemmas.Grind.{common_steps}
use Rattle.csp_scene.specs.Ranges.{HasEnds}
use Rattle.csp_scene.specs.Faults.{link_at}
use Rattle.csp_scene.proofs.Growing.{link_shape}
use Rattle.csp_scene.proofs.sketch.Sketch.state_fault.Goals as goal

pub state_fault_at-requires-clause-fault : goal.state_fault_at-requires-clause-fault
state_fault_at-requires-clause-fault c =
    let there : c.in-Some.place < length c.args.self.now.links = first_of (search rules, grind (arith, common_steps)) in
    let shape : HasEnds (link_at c.args.self.now.links c.in-Some.place) = link_shape (length c.args.self.now.nodes) [] c.args.self.now.links c.in-Some.place c.requires.kept.links there in
    c.planned-fault.ensures.kept (length (link_at c.args.self.now.links c.in-Some.place).ends) (omega (arith, c.direction_of.ensures.range, shape.least))
