use Rattle.std.proofs.Common.{◌≡◌, Some, None, IsSome, List, map, ap, sym, ◌∙◌, subst}
use Rattle.std.specs.Prelude.{slice_get}
use Rattle.csp_log.specs.declared.places.End.{End}
use Rattle.csp_nodes.proofs.DecksLaws.{finds_none, queue_found}
use Rattle.csp_nodes.specs.DecksAt.{DecksAt, PopsSo, rule_at}
use Rattle.csp_nodes.specs.Seeing.{decks_at}
use Rattle.csp_nodes.specs.Serving.{goes}
use Rattle.csp_nodes.proofs.Ends.{links_of}
use Rattle.csp_nodes.proofs.decks.Decks.is_empty_at.Goals as goal

-- the ends of the links
abbrev ends_of : goal.After-is_empty_at → List (List End)
ends_of c = map (λ ends. ends.items) c.self.inside.links.items

went : (c : goal.After-is_empty_at) → goes (ends_of c) c.self.inside.whose c.args.queue ≡ Some (c.in-Some.node, c.in-Some.name)
went c = ap (λ (d : DecksAt). goes d.links d.whose c.args.queue) c.self.view_is ∙ sym c.goes.ensures ∙ c.in-Some.is

some : (c : goal.After-is_empty_at) → IsSome (rule_at (decks_at c.self.inside) c.args.queue)
some c = subst (λ (d : DecksAt). IsSome (rule_at d c.args.queue)) (sym c.self.view_is) c.requires

found : (c : goal.After-is_empty_at) → slice_get c.self.inside.nodes.items c.in-Some.node ≡ Some c.index.result.now
found c = queue_found c.self.inside.nodes.items (ends_of c) c.self.inside.whose c.args.queue c.in-Some.node c.in-Some.name c.index.result.now (some c) (went c) c.index.ensures

pub returns : goal.returns
returns c = λ empty.
    subst (λ (d : DecksAt). PopsSo d c.args.queue None d) c.self.view_is
    (finds_none c.keeps_shape.ensures.rules c.self.inside.nodes.items (links_of c.self.inside.links.items) c.self.inside.whose c.args.queue c.in-Some.node c.in-Some.name c.index.result.now
    (went c) (found c) (some c) (c.is_empty_at.ensures empty))
