use Rattle.std.proofs.Common.{◌≡◌, rules, arith, length, sym, subst, ap, ◌∙◌}
use Rattle.std.proofs.lemmas.Grind.{common_steps}
use Rattle.csp_route.specs.Routes.{Routes, IsWithin, merged}
use Rattle.csp_scene.specs.Links.{links_at, node_at}
use Rattle.csp_scene.specs.Joining.{with_routes}
use Rattle.csp_scene.proofs.Sketches.{kept_of, IsSketch-routes}
use Rattle.csp_scene.proofs.sketch.Sketch.add_routes.Goals as goal

pub returns-clause-kept : goal.returns-clause-kept
returns-clause-kept c =
    let own = (node_at c.args.self.now.nodes c.args.place).routes in
    let count = length (links_at c.args.place c.args.self.now.links) in
    let same : c.behind-self.inside.routes ≡ own = first_of (search rules, grind (arith, common_steps)) in
    let within : IsWithin count c.extend.new.self = c.in-Ok.ensures.known count (subst (λ (t : Routes). IsWithin count t) (sym same) (c.requires.kept.routes.each c.args.place)) c.requires.within in
    kept_of (with_routes c.args.place (merged own c.args.more.now) c.args.self.now) _
    (IsSketch-routes c.args.self.now c.args.place (merged own c.args.more.now) c.requires.kept c.requires.node c.requires.router (subst (λ (t : Routes). IsWithin count t) (c.in-Ok.ensures.ok ∙ ap (λ (t : Routes). merged t c.args.more.now) same) within))
    (first_of (search rules, grind (arith, common_steps)))
