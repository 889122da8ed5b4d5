use Rattle.std.proofs.Common.{◌≡◌, drop, slice_get}
use Rattle.std.specs.Option.{option_map_or}
use Rattle.csp_scene.specs.Links.{links_at}
use Rattle.csp_timeline.specs.Labels.{iface_name, nameless}
use Rattle.csp_timeline.proofs.labels.iface_name.Given as goal

-- the name is that of the link so many places on among those of the node that are still to come
abbrev pub invariant-loop-link : goal.invariant-loop-link
invariant-loop-link l = option_map_or (λ k. k.name) (slice_get (links_at l.node (drop l.link-index l.scene.links)) l.left) nameless ≡ iface_name l.scene l.node l.number
