use Rattle.std.proofs.Common.{ℕ, ◌<◌, List, length, take, ap, arith}
use Rattle.std.proofs.lemmas.List.{length-map, length-take-le}
use Rattle.csp_scene.specs.Links.{links_at}
use Rattle.csp_scene.specs.Scene.{PlainLink}
use Rattle.csp_topology.proofs.PlanLemmas.{links_few}
use Rattle.csp_topology.proofs.links.names_at.Goals as goal

pub push-requires : goal.push-requires
push-requires c =
    let so_far = take c.loop-link.link-index c.args.links.now in
    let seen = length-map c.loop-link.names.items (λ n. n.bytes) in
    let named = length-map (links_at c.args.place so_far) (λ (l : PlainLink). l.name) in
    let same = ap (λ (ns : List (List ℕ)). length ns) c.loop-link.invariant.names in
    let low : c.loop-link.link-index < length c.args.links.now = c.loop-link-test.true in
    omega (arith, seen, named, same, links_few c.args.place so_far, length-take-le c.loop-link.link-index c.args.links.now (omega (arith, low)), low, c.requires)
