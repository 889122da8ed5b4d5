use Rattle.std.proofs.Common.{◌++◌, ◌∙◌, ap, sym, length, append-nil, arith, List}
use Rattle.csp_log.specs.declared.entry.Entry.{Entry}
use Rattle.csp_world.proofs.LookingLemmas.{look_more, look_none, room_more}
use Rattle.csp_world.proofs.looking.log_rounds.Goals as goal

pub loop-init : goal.loop-init
loop-init c = record {
  entries = sym (ap (λ (l : List Entry). c.args.log.now.entries ++ l) (look_none c.args.time c.args.queues.now) ∙ append-nil c.args.log.now.entries);
  spare = grind (arith);
}

pub loop-preserved : goal.loop-preserved
loop-preserved c = record {
  entries = look_more c.loop.counter c.args.time c.args.queues.now c.args.log.now.entries c.loop.log.entries c.log_looks.new.log.entries c.loop.invariant.entries c.log_looks.ensures.entries;
  spare = room_more c.loop.counter (length c.args.queues.now) c.args.log.now.spare c.loop.log.spare c.log_looks.new.log.spare c.loop.invariant.spare c.log_looks.ensures.spare;
}
