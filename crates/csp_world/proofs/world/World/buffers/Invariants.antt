use Rattle.std.proofs.Common.{◌≡◌, ℕ, Some, length, slice_get, vec_capacity, vec_len}
use Rattle.csp_topology.specs.declared.opened.NodeBuffers.{NodeBuffers}
use Rattle.csp_world.proofs.world.World.buffers.Given as goal
use Rattle.csp_world.specs.Settling.{AreBuffersAt}

-- those of the nodes so far
abbrev pub invariant-loop-place : goal.invariant-loop-place
invariant-loop-place l = record {
  many : length l.all.items ≡ l.place;
  each : (node : ℕ) (b : NodeBuffers) → slice_get l.all.items node ≡ Some b → AreBuffersAt l.self.plain.decks l.self.regions node b;
  len : vec_len l.all ≡ l.place;
  room : vec_capacity l.all ≡ length l.nodes;
}
