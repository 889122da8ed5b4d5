use Rattle.csp_stack.proofs.Awaiting.{unpushed}
use Rattle.csp_stack.proofs.turn.finish_send.Goals as goal

pub returns-in_default : goal.returns-in_default
returns-in_default c =
    let t = rw c.count_full.ensures at c.finish_push.ensures.told in
    record {
      told = rw (unpushed c.args.answer c.in_default.not-Pushed) (record { state = t.state; region = t.region; events = t.events });
      out = c.finish_push.ensures.out;
      keeps = λ ifaces. let k = rw c.count_full.ensures at (c.finish_push.ensures.keeps ifaces) in record { numbers = k.numbers; room = k.room; within = k.within; far = k.far; apps = k.apps; doing = k.doing; early = k.early };
    }
