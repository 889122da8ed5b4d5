use Rattle.std.proofs.Common.{◌≡◌}
use Rattle.csp_lists.proofs.Fifos.{pops_all, pops_one, pops_room, pops_fits}
use Rattle.csp_lists.proofs.pool.Pool.pop.Goals as goal

pub invariant_of-self : goal.invariant_of-self
invariant_of-self c =
    let old = c.self.inside in
    let kept = c.self.invariant in
    let pops = c.pop.ensures.answer in
    record {
      of_it = pops_all (λ b. b.region ≡ old.token.name) old.buffers c.pop.new.self c.pop.result pops kept.of_it;
      fits = pops_fits old.buffers c.pop.new.self c.pop.result pops kept.fits;
      numbers = kept.numbers;
      numbers_room = rw (pops_room old.buffers c.pop.new.self c.pop.result pops) kept.numbers_room;
    }

pub returns-clause-of_it : goal.returns-clause-of_it
returns-clause-of_it c = rw (← c.self.view_is) (pops_one (λ b. b.region ≡ c.self.inside.token.name) c.self.inside.buffers c.pop.new.self c.pop.result c.pop.ensures.answer c.self.invariant.of_it)
