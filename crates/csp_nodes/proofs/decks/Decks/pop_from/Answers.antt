use Rattle.std.proofs.Common.{set, ◌≡◌, Some, IsSome, IfSome, List, map, ap, sym, ◌∙◌, subst}
use Rattle.std.specs.Prelude.{slice_get}
use Rattle.csp_deck.specs.Regions.{IsItemOf}
use Rattle.csp_lists.specs.Regioned.{shown_pop}
use Rattle.csp_log.specs.declared.places.End.{End}
use Rattle.csp_nodes.proofs.DecksLaws.{seen, all_of_it, pops, queue_found}
use Rattle.csp_nodes.specs.DecksAt.{DecksAt, PopsSo, rule_at, region_at}
use Rattle.csp_nodes.specs.Seeing.{decks_at}
use Rattle.csp_nodes.specs.Serving.{goes}
use Rattle.csp_nodes.proofs.Ends.{links_of}
use Rattle.csp_nodes.proofs.decks.Decks.pop_from.Goals as goal

-- the ends of the links
abbrev ends_of : goal.After-self-1 → List (List End)
ends_of c = map (λ ends. ends.items) c.self.inside.links.items

went : (c : goal.After-self-1) → goes (ends_of c) c.self.inside.whose c.args.queue ≡ Some (c.in-Some.node, c.in-Some.name)
went c = ap (λ (d : DecksAt). goes d.links d.whose c.args.queue) c.self.view_is ∙ sym c.goes.ensures ∙ c.in-Some.is

some : (c : goal.After-self-1) → IsSome (rule_at (decks_at c.self.inside) c.args.queue)
some c = subst (λ (d : DecksAt). IsSome (rule_at d c.args.queue)) (sym c.self.view_is) c.requires

found : (c : goal.After-self-1) → slice_get c.self.inside.nodes.items c.in-Some.node ≡ Some c.index_mut.result.now
found c = queue_found c.self.inside.nodes.items (ends_of c) c.self.inside.whose c.args.queue c.in-Some.node c.in-Some.name c.index_mut.result.now (some c) (went c) c.index_mut.ensures.value

pub returns-clause-so : goal.returns-clause-so
returns-clause-so c =
    subst (λ (d : DecksAt). PopsSo d c.args.queue (shown_pop c.pop.result) (seen (set c.self.inside.nodes.items c.in-Some.node c.pop.new.self) (links_of c.self.inside.links.items) c.self.inside.whose)) c.self.view_is
    (pops c.keeps_shape.ensures.rules c.self.inside.nodes.items (links_of c.self.inside.links.items) c.self.inside.whose c.args.queue c.in-Some.node c.in-Some.name c.index_mut.result.now c.pop.new.self (shown_pop c.pop.result)
    (went c) (found c) (some c) c.pop.ensures.so c.pop.ensures.region)

pub returns-clause-of_it : goal.returns-clause-of_it
returns-clause-of_it c =
    subst (λ (d : DecksAt). IfSome c.pop.result (λ i. IsItemOf (region_at d) i)) c.self.view_is
    (all_of_it c.self.inside.nodes.items (ends_of c) c.self.inside.whose c.args.queue c.pop.result c.in-Some.node c.in-Some.name c.index_mut.result.now (went c) (found c) (some c) c.pop.ensures.so.carried c.pop.ensures.of_it)
