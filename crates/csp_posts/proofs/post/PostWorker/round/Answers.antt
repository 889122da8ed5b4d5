use Rattle.std.proofs.Common.{◌∙◌, arith}
use Rattle.csp_posts.proofs.Turning.{turns_joined, turns_last, turns_of_it}
use Rattle.csp_posts.proofs.post.PostWorker.round.Goals as goal

pub turn-turn-requires : goal.turn-turn-requires
turn-turn-requires g c =
    let nodes = c.args.shared.now in
    let ready = c.requires.ready in
    let done = c.loop.invariant in
    record {
      of_it = turns_of_it nodes c.args.now c.loop.counter c.args.self.now.plain c.loop.self.plain done.turns ready.of_it;
      late = turns_last nodes c.args.now c.loop.counter c.args.self.now.plain c.loop.self.plain done.turns ready.late;
      early = ready.early;
      room =
          let room = ready.room in
          let spare = done.spare in
          let more = c.loop-test.true in
          omega (arith, room, spare, more);
    }

pub loop-preserved : goal.loop-preserved
loop-preserved g c =
    let done = c.loop.invariant in
    let one = c.turn-turn.ensures.turned in
    record {
      turns = turns_joined c.args.shared.now c.args.now c.loop.counter 1 c.args.self.now.plain c.loop.self.plain c.turn-turn.new.self.plain done.turns one.turns;
      spare =
          let first = done.spare in
          let last = one.spare in
          omega (arith, first, last);
      room = one.room ∙ done.room;
    }
