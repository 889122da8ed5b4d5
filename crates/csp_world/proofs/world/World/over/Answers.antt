use Rattle.std.proofs.Common.{refl, subst, sym}
use Rattle.std.specs.List.{AllByRecursion}
use Rattle.csp_nodes.specs.Unused.{IsUnused}
use Rattle.csp_world.proofs.OpeningNodes.{all_unused, world_over}
use Rattle.csp_world.proofs.world.World.over.Goals as goal

pub invariant_of-result : goal.invariant_of-result
invariant_of-result c = world_over c.opens.ensures.numbers _ c.args.nodes.now c.in_ok-decks.ensures.decks c.new.ensures.items refl c.in-Ok.ensures.has c.requires.few

pub leave-requires : goal.leave-requires
leave-requires c = subst (AllByRecursion IsUnused) (sym c.in_ok-decks.ensures.decks) (all_unused c.args.nodes.now)
