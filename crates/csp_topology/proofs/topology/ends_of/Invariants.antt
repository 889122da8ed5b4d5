use Rattle.std.proofs.Common.{◌≡◌, map, take}
use Rattle.csp_topology.proofs.topology.ends_of.Given as goal

abbrev pub invariant-loop-link : goal.invariant-loop-link
invariant-loop-link l = record {
  ends : map (λ e. e.items) l.all.items ≡ map (λ x. x.ends) (take l.link-index l.links);
}
