use Rattle.std.proofs.Common.{◌≡◌, ◌*◌, ◌≤◌, ◌^◌, take, sum_by}
use Rattle.csp_log.specs.Weights.{weight_of_all}
use Rattle.csp_world.specs.declared.member.Member.{Member}
use Rattle.csp_world.proofs.world.weigh_entries.Given as goal

-- the sum so far, and its bound
abbrev pub invariant-loop-member : goal.invariant-loop-member
invariant-loop-member l = record {
  sum : l.total ≡ sum_by (λ (m : Member). weight_of_all m.log.entries) (take l.member-index l.members);
  bound : l.total ≤ l.member-index * 2 ^ 35;
}
