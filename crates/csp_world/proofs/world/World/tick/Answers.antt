use Rattle.std.proofs.Common.{◌+◌, arith, subst, sym}
use Rattle.csp_world.specs.Inside.{world_of}
use Rattle.csp_world.specs.Reached.{IsReached}
use Rattle.csp_world.specs.SeenWorld.{SeenWorld}
use Rattle.csp_world.specs.World.{tick}
use Rattle.csp_world.proofs.FitLemmas.{fit_later}
use Rattle.csp_world.proofs.HolderLemmas.{one_holder}
use Rattle.csp_world.proofs.ReachingLemmas.{reached_tick}
use Rattle.csp_world.proofs.world.World.tick.Goals as goal

pub invariant_of-self : goal.invariant_of-self
invariant_of-self c = record {
  fit = fit_later c.self.inside.decks c.self.inside.members.items c.self.inside.time c.self.invariant.fit;
  conserved = c.self.invariant.conserved;
  room = c.self.invariant.room;
  early = grind (arith, c.requires, c.self.view_is);
  few_decks = c.self.invariant.few_decks;
  few_members = c.self.invariant.few_members;
}

pub returns-clause-one_holder : goal.returns-clause-one_holder
returns-clause-one_holder c =
    one_holder c.counts_holders.ensures (world_of c.self.inside.decks c.self.inside.members.items (c.self.inside.time + 1)) c.self.invariant.conserved

pub returns-clause-reached : goal.returns-clause-reached
returns-clause-reached c = λ scene reached. subst (λ (v : SeenWorld). IsReached scene (tick v.plain)) (sym c.self.view_is) (reached_tick scene c.args.self.now.plain reached)

pub returns-clause-consistent : goal.returns-clause-consistent
returns-clause-consistent c = λ scene is after reached. c.is_consistent.ensures scene _ is after reached
