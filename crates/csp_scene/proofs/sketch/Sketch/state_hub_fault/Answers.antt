use Rattle.std.proofs.Common.{◌<◌, length, rules, arith}
use Rattle.std.proofs.lemmas.Grind.{common_steps}
use Rattle.csp_scene.specs.Faults.{link_at}
use Rattle.csp_scene.proofs.sketch.Sketch.state_hub_fault.Goals as goal

pub state_fault_at-requires-clause-fault : goal.state_fault_at-requires-clause-fault
state_fault_at-requires-clause-fault c =
    let there : c.in-Some-end_named.end < length (link_at c.args.self.now.links c.in-Some.place).ends = first_of (search rules, grind (arith, common_steps)) in
    c.planned.ensures.kept (length (link_at c.args.self.now.links c.in-Some.place).ends) there
