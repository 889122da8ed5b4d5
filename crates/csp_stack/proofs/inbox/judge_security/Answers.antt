use Rattle.std.proofs.Common.{sym}
use Rattle.csp_stack.proofs.Keeping.{after_counts}
use Rattle.csp_stack.proofs.inbox.judge_security.Goals as goal

pub returns-clause-told : goal.returns-clause-told
returns-clause-told c next =
    let told = rw (c.count.ensures, c.into_buffer.ensures) at c.discard.ensures.told in
    rw (sym c.if-not-is_packet_secured.ensures) (record { state = told.state; region = told.region; events = told.events })

pub returns-clause-keeps : goal.returns-clause-keeps
returns-clause-keeps c ifaces =
    after_counts ifaces c.args.state.now.state c.discard.new.self.state _ _ (rw (c.count.ensures, c.into_buffer.ensures) at (c.discard.ensures.keeps ifaces))
