use Rattle.csp_stack.proofs.inbox.judge_checksum.Goals as goal

pub returns-in-Err-clause-keeps : goal.returns-in-Err-clause-keeps
returns-in-Err-clause-keeps c ifaces =
    let k = rw (c.count.ensures, c.into_buffer.ensures, c.in-Err.ensures.number) at (c.discard.ensures.keeps ifaces) in
    record { numbers = k.numbers; room = k.room; within = k.within; far = k.far; apps = k.apps; doing = k.doing; early = k.early }
