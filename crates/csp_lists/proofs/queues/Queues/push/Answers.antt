use Rattle.std.proofs.Common.{◌<◌, map, length}
use Rattle.csp_lists.proofs.Queued.{plain, read_at, written_at, within_by}
use Rattle.csp_lists.proofs.queues.Queues.push.Goals as goal

pub returns-clause-answer : goal.returns-clause-answer
returns-clause-answer c =
    let qs = c.self.inside.list.items in
    let within : c.args.at < length (map plain qs) = within_by (map plain qs) c.args.at _ (rw (← c.self.view_is) at c.requires.carried) in
    rw (← c.self.view_is) (c.index_mut.result.now.queue, c.push.new.self.queue, read_at qs c.args.at c.index_mut.result.now c.index_mut.ensures.value within, written_at qs c.args.at c.push.new.self, c.push.ensures.answer)
