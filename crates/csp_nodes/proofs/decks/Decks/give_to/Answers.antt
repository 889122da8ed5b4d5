use Rattle.std.proofs.Common.{set, ◌≡◌, ◌≤◌, Some, None, ap, sym, ◌∙◌, refl, subst, arith}
use Rattle.std.specs.Prelude.{slice_get}
use Rattle.csp_lists.specs.PlainDeck.{IsFullAt}
use Rattle.csp_log.specs.declared.shown.OpShown.TheVariants as op
use Rattle.csp_nodes.proofs.DecksLaws.{seen, gives, home_found, no_pool, nobody}
use Rattle.csp_nodes.specs.DecksAt.{DecksAt, GivesSo, home_among}
use Rattle.csp_nodes.specs.Returned.{shown_give}
use Rattle.csp_nodes.specs.Seeing.{decks_of}
use Rattle.csp_log.specs.Who.{node_of}
use Rattle.csp_nodes.proofs.Ends.{links_of}
use Rattle.csp_nodes.proofs.decks.Decks.give_to.Goals as goal

home_is : (c : goal.After-self-1) → home_among (decks_of c.self.inside.nodes.items) (node_of c.self.inside.whose) ≡ Some c.in-Some.node
home_is c = ap (λ (d : DecksAt). home_among d.decks (node_of d.whose)) c.self.view_is ∙ sym c.home.ensures ∙ c.in-Some.is

found : (c : goal.After-self-1) → slice_get c.self.inside.nodes.items c.in-Some.node ≡ Some c.index_mut.result.now
found c = home_found c.self.inside.nodes.items c.self.inside.whose c.in-Some.node c.index_mut.result.now (home_is c) c.index_mut.ensures.value

pub returns-in-Some-clause-so : goal.returns-in-Some-clause-so
returns-in-Some-clause-so c =
    subst (λ (d : DecksAt). GivesSo d c.args.buffer.picture (shown_give c.give.result) (seen (set c.self.inside.nodes.items c.in-Some.node c.give.new.self) (links_of c.self.inside.links.items) c.self.inside.whose)) c.self.view_is
    (gives c.keeps_shape.ensures.rules c.self.inside.nodes.items (links_of c.self.inside.links.items) c.self.inside.whose c.args.buffer.picture c.in-Some.node c.index_mut.result.now c.give.new.self (shown_give c.give.result) (home_is c) (found c) c.give.ensures.so c.give.ensures.region)

pub returns-in-None-clause-so : goal.returns-in-None-clause-so
returns-in-None-clause-so c =
    let none : home_among c.args.self.now.decks (node_of c.args.self.now.whose) ≡ None = sym c.home.ensures ∙ c.in-None.is in
    record {
      answer = nobody c.args.self.now (op.Give c.args.buffer.picture) (node_of c.args.self.now.whose) refl refl none;
      full = no_pool IsFullAt c.args.self.now (node_of c.args.self.now.whose) refl none (omega arith);
      rules = λ q. refl;
      region = refl;
    }
