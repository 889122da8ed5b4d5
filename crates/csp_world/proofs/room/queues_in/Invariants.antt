use Rattle.std.proofs.Common.{◌≡◌, ◌+◌, ◌*◌, ◌≤◌, sum_by, take}
use Rattle.csp_base.specs.declared.limits.TheConstants.{MAX_APPS}
use Rattle.csp_scene.specs.declared.limits.TheConstants.{MAX_LINKS}
use Rattle.csp_world.proofs.room.queues_in.Given as goal
use Rattle.csp_world.specs.Opening.{queues_of}

-- the sum so far, and its bound
abbrev pub invariant-loop-node : goal.invariant-loop-node
invariant-loop-node l = record {
  sum : l.queues ≡ sum_by queues_of (take l.node-index l.nodes);
  bound : l.queues ≤ (4 + 2 * MAX_APPS + 3 * MAX_LINKS) * l.node-index;
}
