use Rattle.csp_deck.specs.Carried.{IsCarried}
use Rattle.csp_deck.specs.Regions.{IsItemOf}
use Rattle.csp_log.specs.Pictures.{shown_item}
use Rattle.csp_lists.proofs.Fifos.{pushes_all, pushes_room, pushes_fits}
use Rattle.csp_lists.proofs.queue.Queue.push.Goals as goal

pub invariant_of-self : goal.invariant_of-self
invariant_of-self c =
    let old = c.self.inside in
    let kept = c.self.invariant in
    let pushes = c.push.ensures.answer in
    let room = pushes_room old.fifo c.push.new.self c.args.item c.push.result pushes in
    record {
      carried = pushes_all (λ i. IsCarried old.rule (shown_item i)) old.fifo c.push.new.self c.args.item c.push.result pushes (rw (← c.self.view_is) at c.requires.carried) kept.carried;
      of_it = pushes_all (IsItemOf old.token.name) old.fifo c.push.new.self c.args.item c.push.result pushes (rw (← c.self.view_is) at c.requires.of_it) kept.of_it;
      fits = pushes_fits old.fifo c.push.new.self c.args.item c.push.result pushes kept.fits;
      shown = kept.shown;
      shown_room = rw room kept.shown_room;
      numbers = kept.numbers;
      numbers_room = rw room kept.numbers_room;
    }
