-- What other crates may cite of the proofs of this one.

-- lists with one more element, or with one of them replaced
pub use Rattle.csp_scene.proofs.Lists.{AllByRecursion-append, AllByRecursion-at, AllByRecursion-map, AllByRecursion-push, slice_get-seam}
-- what no line changes of the nodes of a scene but one that adds a node
pub use Rattle.csp_scene.proofs.NodesAre.{IsOfNodes, nodes_are}
