use Rattle.std.proofs.Common.{◌≡◌}
use Rattle.crossbeam_queue.specs.declared.array_queue.Stage.TheVariants.{SawHead}
use Rattle.crossbeam_queue.specs.Ring.{At}
use Rattle.csp_ring.proofs.shapes.RuledRing.pop_from.Given as goal

abbrev pub invariant-loop : goal.invariant-loop
invariant-loop g l = (l.pass.table_id ≡ l.initial.pass.table_id) × (l.pass.id ≡ l.initial.pass.id) × (l.pass.me.0.client ≡ l.initial.pass.me.0.client) × At l.self.capacity SawHead l.head l.pass.me × (l.pass.me.1 ≡ l.initial.pass.me.1)
