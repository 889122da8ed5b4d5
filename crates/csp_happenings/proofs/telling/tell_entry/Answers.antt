use Rattle.std.proofs.Common.{slice_get}
use Rattle.csp_happenings.proofs.Counting.{AreWithin-more}
use Rattle.csp_happenings.proofs.Told.{iface-told, link-told}
use Rattle.csp_happenings.proofs.telling.tell_entry.Goals as goal

pub returns-in-Iface-clause-told : goal.returns-in-Iface-clause-told
returns-in-Iface-clause-told c = λ scene before was.
    iface-told c.tell_iface.result c.args.who c.in-Iface.node c.in-Iface.field-1 c.in-Iface.is scene before (slice_get c.args.log.now.entries c.args.index) c.args.memory.now _ _ _ _ c.moved-moved.result c.events-events.result.now was
    c.tell_iface.ensures.told c.tell_iface.ensures.numbers c.time.ensures c.moved-moved.ensures c.events-events.ensures

pub returns-in-Link-clause-told : goal.returns-in-Link-clause-told
returns-in-Link-clause-told c = λ scene before was.
    link-told c.tell_link.result c.args.who c.in-Link.field-0 c.in-Link.is scene before (slice_get c.args.log.now.entries c.args.index) c.args.memory.now (record { numbers = c.args.memory.now.numbers; carrying = c.tell_link.new.carrying }) _ _ _ c.framed.result was
    c.tell_link.ensures.told c.tell_link.ensures.counts c.time.ensures c.framed.ensures

pub returns-in-Link-clause-within : goal.returns-in-Link-clause-within
returns-in-Link-clause-within c = λ most was. AreWithin-more most c.args.memory.now.carrying c.tell_link.new.carrying c.framed.result c.tell_link.ensures.counts was
