use Rattle.csp_ports.proofs.Holding.{last-empty}
use Rattle.csp_ports.proofs.held.end_slots.Goals as goal

pub end-requires : goal.end-requires
end-requires c = (last-empty c.loop-slot.slots.items c.pop.new.self.items c.in-Some.slot c.loop-slot.invariant c.in-Some.ensures.items).0

pub loop-slot-preserved : goal.loop-slot-preserved
loop-slot-preserved c = (last-empty c.loop-slot.slots.items c.pop.new.self.items c.in-Some.slot c.loop-slot.invariant c.in-Some.ensures.items).1
