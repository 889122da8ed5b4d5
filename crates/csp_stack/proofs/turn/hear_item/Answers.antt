use Rattle.std.proofs.Common.{ap}
use Rattle.csp_stack.specs.Rules.{Arrival}
use Rattle.csp_stack.proofs.turn.hear_item.Goals as goal

pub returns-in-Packet-clause-keeps : goal.returns-in-Packet-clause-keeps
returns-in-Packet-clause-keeps c =
    let k = rw c.count_in.ensures at c.hear.ensures.keeps in
    let number = ap (λ (a : Arrival). a.buffer.number) c.of.ensures.packet in
    rw (c.in-Packet.is, ← number) (record { numbers = k.numbers; room = k.room; within = k.within; far = k.far; apps = k.apps; doing = k.doing; early = k.early })
