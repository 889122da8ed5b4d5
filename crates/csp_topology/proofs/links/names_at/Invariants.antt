use Rattle.std.proofs.Common.{◌≡◌, map, take}
use Rattle.csp_scene.specs.Links.{links_at}
use Rattle.csp_topology.proofs.links.names_at.Given as goal

abbrev pub invariant-loop-link : goal.invariant-loop-link
invariant-loop-link l = record {
  names : map (λ n. n.bytes) l.names.items ≡ map (λ x. x.name) (links_at l.place (take l.link-index l.links));
}
