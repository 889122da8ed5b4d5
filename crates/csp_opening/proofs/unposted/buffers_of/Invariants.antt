use Rattle.std.proofs.Common.{◌≡◌, length, map, take, vec_capacity, vec_len}
use Rattle.csp_opening.specs.Opened.{region_in}
use Rattle.csp_opening.proofs.unposted.buffers_of.Given as goal

-- those of the nodes so far
abbrev pub invariant-loop-node : goal.invariant-loop-node
invariant-loop-node l = record {
  regions : map (λ b. b.region.name) l.all.items ≡ map region_in (take l.node-index l.nodes);
  counts : map (λ b. b.count) l.all.items ≡ map (λ x. x.base.pool.capacity) (take l.node-index l.nodes);
  len : vec_len l.all ≡ l.node-index;
  room : vec_capacity l.all ≡ length l.nodes;
}
