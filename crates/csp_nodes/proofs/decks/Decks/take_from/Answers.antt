use Rattle.std.proofs.Common.{set, ◌≡◌, Some, None, Option, IfSome, ap, sym, ◌∙◌, refl, subst}
use Rattle.std.specs.Prelude.{slice_get}
use Rattle.std.specs.Option.{option_map}
use Rattle.csp_arena.specs.Cells.{RegionName}
use Rattle.csp_buffer.specs.Content.{Content}
use Rattle.csp_buffer.specs.PlainBuffer.{PlainBuffer}
use Rattle.csp_lists.specs.PlainDeck.{IsEmptyAt}
use Rattle.csp_log.specs.declared.shown.OpShown.TheVariants as op
use Rattle.csp_nodes.proofs.DecksLaws.{seen, home_found, home_region, no_pool, nobody, takes}
use Rattle.csp_nodes.specs.DecksAt.{DecksAt, TakesSo, home_among, region_at}
use Rattle.csp_nodes.specs.Seeing.{decks_of}
use Rattle.csp_log.specs.Who.{node_of}
use Rattle.csp_nodes.proofs.Ends.{links_of}
use Rattle.csp_nodes.proofs.decks.Decks.take_from.Goals as goal

home_is : (c : goal.After-self-1) → home_among (decks_of c.self.inside.nodes.items) (node_of c.self.inside.whose) ≡ Some c.in-Some.node
home_is c = ap (λ (d : DecksAt). home_among d.decks (node_of d.whose)) c.self.view_is ∙ sym c.home.ensures ∙ c.in-Some.is

found : (c : goal.After-self-1) → slice_get c.self.inside.nodes.items c.in-Some.node ≡ Some c.index_mut.result.now
found c = home_found c.self.inside.nodes.items c.self.inside.whose c.in-Some.node c.index_mut.result.now (home_is c) c.index_mut.ensures.value

pub returns-in-Some-clause-so : goal.returns-in-Some-clause-so
returns-in-Some-clause-so c =
    subst (λ (d : DecksAt). TakesSo d (option_map (λ (b : PlainBuffer). b.picture) c.take.result) (seen (set c.self.inside.nodes.items c.in-Some.node c.take.new.self) (links_of c.self.inside.links.items) c.self.inside.whose)) c.self.view_is
    (takes c.keeps_shape.ensures.rules c.self.inside.nodes.items (links_of c.self.inside.links.items) c.self.inside.whose c.in-Some.node c.index_mut.result.now c.take.new.self (option_map (λ (b : PlainBuffer). b.picture) c.take.result) (home_is c) (found c) c.take.ensures.so c.take.ensures.region)

pub returns-in-Some-clause-of_it : goal.returns-in-Some-clause-of_it
returns-in-Some-clause-of_it c =
    let region = sym (home_region c.self.inside.nodes.items c.self.inside.whose c.in-Some.node c.index_mut.result.now (home_is c) (found c)) ∙ ap region_at c.self.view_is in
    all c.take.result region c.take.ensures.of_it
  where
    all : {x y : RegionName} (r : Option PlainBuffer) → x ≡ y → IfSome r (λ (b : PlainBuffer). b.region ≡ x) → IfSome r (λ (b : PlainBuffer). b.region ≡ y)
    all None e h = tt
    all (Some b) e h = h ∙ e

pub returns-in-None-clause-so : goal.returns-in-None-clause-so
returns-in-None-clause-so c =
    let none : home_among c.args.self.now.decks (node_of c.args.self.now.whose) ≡ None = sym c.home.ensures ∙ c.in-None.is in
    record {
      answer = nobody c.args.self.now op.Take (node_of c.args.self.now.whose) refl refl none;
      empty = no_pool IsEmptyAt c.args.self.now (node_of c.args.self.now.whose) refl none refl;
      rules = λ q. refl;
      region = refl;
    }
