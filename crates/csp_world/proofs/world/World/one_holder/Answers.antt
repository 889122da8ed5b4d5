use Rattle.std.proofs.Common.{subst}
use Rattle.csp_world.specs.Holders.{HasOneHolder}
use Rattle.csp_world.specs.Inside.{world_of}
use Rattle.csp_world.specs.SeenWorld.{SeenWorld}
use Rattle.csp_world.proofs.HolderLemmas.{one_holder}
use Rattle.csp_world.proofs.world.World.one_holder.Goals as goal

pub returns : goal.returns
returns c = subst (λ (v : SeenWorld). HasOneHolder v.plain) c.self.view_is
    (one_holder c.counts_holders.ensures (world_of c.self.inside.decks c.self.inside.members.items c.self.inside.time) c.self.invariant.conserved)
