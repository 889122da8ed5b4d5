use Rattle.std.proofs.Common.{◌≡◌}
use Rattle.csp_lists.proofs.Fifos.{pushes_all, pushes_room, pushes_fits}
use Rattle.csp_lists.proofs.pool.Pool.push.Goals as goal

pub invariant_of-self : goal.invariant_of-self
invariant_of-self c =
    let old = c.self.inside in
    let kept = c.self.invariant in
    let pushes = c.push.ensures.answer in
    record {
      of_it = pushes_all (λ b. b.region ≡ old.token.name) old.buffers c.push.new.self c.args.buffer c.push.result pushes (rw (← c.self.view_is) at c.requires) kept.of_it;
      fits = pushes_fits old.buffers c.push.new.self c.args.buffer c.push.result pushes kept.fits;
      numbers = kept.numbers;
      numbers_room = rw (pushes_room old.buffers c.push.new.self c.args.buffer c.push.result pushes) kept.numbers_room;
    }
