use Rattle.std.proofs.Common.{set, ◌≡◌, Some, IsSome, List, map, ap, sym, ◌∙◌, subst}
use Rattle.std.specs.Prelude.{slice_get}
use Rattle.csp_deck.specs.Carried.{IsCarriedIn}
use Rattle.csp_deck.specs.Regions.{IsItemOf}
use Rattle.csp_lists.specs.Regioned.{shown_push}
use Rattle.csp_log.specs.Pictures.{shown_item}
use Rattle.csp_log.specs.declared.places.End.{End}
use Rattle.csp_nodes.proofs.DecksLaws.{seen, carried_there, given_of_it, is_there, pushes, queue_found}
use Rattle.csp_nodes.specs.DecksAt.{DecksAt, PushesSo, rule_at, region_at}
use Rattle.csp_nodes.specs.Seeing.{decks_at}
use Rattle.csp_nodes.specs.Serving.{goes}
use Rattle.csp_nodes.proofs.Ends.{links_of}
use Rattle.csp_nodes.proofs.decks.Decks.push_to.Goals as goal

-- the ends of the links
abbrev ends_of : goal.After-index_mut → List (List End)
ends_of c = map (λ ends. ends.items) c.self.inside.links.items

went : (c : goal.After-index_mut) → goes (ends_of c) c.self.inside.whose c.args.queue ≡ Some (c.in-Some.node, c.in-Some.name)
went c = ap (λ (d : DecksAt). goes d.links d.whose c.args.queue) c.self.view_is ∙ sym c.goes.ensures ∙ c.in-Some.is

carried : (c : goal.After-index_mut) → IsCarriedIn (rule_at (decks_at c.self.inside) c.args.queue) (shown_item c.args.item)
carried c = subst (λ (d : DecksAt). IsCarriedIn (rule_at d c.args.queue) (shown_item c.args.item)) (sym c.self.view_is) c.requires.carried

found : (c : goal.After-index_mut) → slice_get c.self.inside.nodes.items c.in-Some.node ≡ Some c.index_mut.result.now
found c =
    queue_found c.self.inside.nodes.items (ends_of c) c.self.inside.whose c.args.queue c.in-Some.node c.in-Some.name c.index_mut.result.now
    (is_there (rule_at (decks_at c.self.inside) c.args.queue) (shown_item c.args.item) (carried c)) (went c) c.index_mut.ensures.value

pub push-requires-clause-carried : goal.push-requires-clause-carried
push-requires-clause-carried c =
    carried_there c.self.inside.nodes.items (ends_of c) c.self.inside.whose c.args.queue (shown_item c.args.item) c.in-Some.node c.in-Some.name c.index_mut.result.now (went c) (found c) (carried c)

pub push-requires-clause-of_it : goal.push-requires-clause-of_it
push-requires-clause-of_it c =
    given_of_it c.self.inside.nodes.items (ends_of c) c.self.inside.whose c.args.queue c.args.item c.in-Some.node c.in-Some.name c.index_mut.result.now (went c) (found c) (carried c)
    (subst (λ (d : DecksAt). IsItemOf (region_at d) c.args.item) (sym c.self.view_is) c.requires.of_it)

pub returns-clause-so : goal.returns-clause-so
returns-clause-so c =
    let ends : List (List End) = map (λ ends. ends.items) c.self.inside.links.items in
    let went : goes ends c.self.inside.whose c.args.queue ≡ Some (c.in-Some.node, c.in-Some.name) = ap (λ (d : DecksAt). goes d.links d.whose c.args.queue) c.self.view_is ∙ sym c.goes.ensures ∙ c.in-Some.is in
    let carried : IsCarriedIn (rule_at (decks_at c.self.inside) c.args.queue) (shown_item c.args.item) = subst (λ (d : DecksAt). IsCarriedIn (rule_at d c.args.queue) (shown_item c.args.item)) (sym c.self.view_is) c.requires.carried in
    let found = queue_found c.self.inside.nodes.items ends c.self.inside.whose c.args.queue c.in-Some.node c.in-Some.name c.index_mut.result.now (is_there (rule_at (decks_at c.self.inside) c.args.queue) (shown_item c.args.item) carried) went c.index_mut.ensures.value in
    subst (λ (d : DecksAt). PushesSo d c.args.queue (shown_item c.args.item) (shown_push c.push.result) (seen (set c.self.inside.nodes.items c.in-Some.node c.push.new.self) (links_of c.self.inside.links.items) c.self.inside.whose)) c.self.view_is
    (pushes c.keeps_shape.ensures.rules c.self.inside.nodes.items (links_of c.self.inside.links.items) c.self.inside.whose c.args.queue (shown_item c.args.item) c.in-Some.node c.in-Some.name c.index_mut.result.now c.push.new.self (shown_push c.push.result)
    went found c.push.ensures.so c.push.ensures.region)
