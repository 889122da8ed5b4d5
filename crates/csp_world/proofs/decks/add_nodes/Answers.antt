use Rattle.std.proofs.Common.{ap, sym, ◌∙◌, subst}
use Rattle.std.specs.List.{AllByRecursion}
use Rattle.csp_nodes.specs.DecksAt.{DecksAt}
use Rattle.csp_nodes.specs.Unused.{IsUnused}
use Rattle.csp_world.proofs.OpeningNodes.{all_unused}
use Rattle.csp_world.proofs.decks.add_nodes.Goals as goal

pub returns-in_err-add_node-clause-unused : goal.returns-in_err-add_node-clause-unused
returns-in_err-add_node-clause-unused c = subst (AllByRecursion IsUnused) (sym (ap (λ (d : DecksAt). d.decks) c.in_err-add_node.ensures.refused ∙ c.loop-node.invariant.decks)) (all_unused _)

pub returns-clause-unused : goal.returns-clause-unused
returns-clause-unused c = subst (AllByRecursion IsUnused) (sym c.loop-node.invariant.decks) (all_unused _)
