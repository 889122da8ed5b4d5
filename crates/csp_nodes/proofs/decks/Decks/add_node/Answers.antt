use Rattle.std.proofs.Common.{◌≡◌, ◌<◌, ◌∷◌, [], ◌++◌, List, length, map, ap, sym, ◌∙◌, subst}
use Rattle.std.specs.Prelude.{slice_get}
use Rattle.std.proofs.lemmas.List.{map-append, length-map}
use Rattle.csp_arena.specs.Cells.{RegionName}
use Rattle.csp_lists.specs.PlainDeck.{DeckAt}
use Rattle.csp_nodes.proofs.DecksLaws.{kept_before}
use Rattle.csp_nodes.specs.DecksAt.{DecksAt}
use Rattle.csp_nodes.specs.Seeing.{decks_of, regions_of}
use Rattle.csp_nodes.proofs.decks.Decks.add_node.Goals as goal

pub returns-clause-regions : goal.returns-clause-regions
returns-clause-regions c node h =
    let nodes = c.self.inside.nodes.items in
    let within : node < length (decks_of nodes) = subst (λ (d : DecksAt). node < length d.decks) (sym c.self.view_is) h in
    let inside : node < length (regions_of nodes) = rw (length-map nodes (λ (d : DeckAt). d.region), ← length-map nodes (λ (d : DeckAt). d.deck)) within in
    ap (λ (l : List DeckAt). slice_get (regions_of l) node) c.push_reserved.ensures.items
    ∙ ap (λ (l : List DeckAt). slice_get (regions_of (l ++ c.in_ok-node.node ∷ [])) node) c.one_more.ensures.items
    ∙ ap (λ (l : List RegionName). slice_get l node) (map-append (λ (d : DeckAt). d.region) nodes (c.in_ok-node.node ∷ []))
    ∙ kept_before (regions_of nodes) (c.in_ok-node.node.region ∷ []) node inside
    ∙ ap (λ (d : DecksAt). slice_get d.regions node) c.self.view_is
