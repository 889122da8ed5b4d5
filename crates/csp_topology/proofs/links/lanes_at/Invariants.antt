use Rattle.std.proofs.Common.{◌≡◌, map, take}
use Rattle.csp_log.specs.Kinds.{carried_on}
use Rattle.csp_scene.specs.Links.{links_at}
use Rattle.csp_topology.proofs.links.lanes_at.Given as goal

abbrev pub invariant-loop-link : goal.invariant-loop-link
invariant-loop-link l = record {
  lanes : l.lanes.items ≡ map (λ x. carried_on x.kind) (links_at l.place (take l.link-index l.links));
}
