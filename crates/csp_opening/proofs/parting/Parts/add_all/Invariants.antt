use Rattle.std.proofs.Common.{◌≡◌, ◌++◌, length, map}
use Rattle.csp_opening.specs.Opened.{lead_in, queues_in}
use Rattle.csp_opening.specs.Whole.{HavePartRoom, rooms_in, store_in}
use Rattle.csp_opening.proofs.parting.Parts.add_all.Given as goal

-- what was appended, then what is still to come, is all
abbrev pub invariant-loop-node : goal.invariant-loop-node
invariant-loop-node l = record {
  room : HavePartRoom (length l.nodes.items) l.self;
  queues : l.self.queues.items ++ map queues_in l.nodes.items ≡ l.fn.self.queues.items ++ map queues_in l.fn.nodes.items;
  stores : l.self.stores.items ++ map store_in l.nodes.items ≡ l.fn.self.stores.items ++ map store_in l.fn.nodes.items;
  rooms : l.self.rooms.items ++ map rooms_in l.nodes.items ≡ l.fn.self.rooms.items ++ map rooms_in l.fn.nodes.items;
  leads : l.self.leads.items ++ map lead_in l.nodes.items ≡ l.fn.self.leads.items ++ map lead_in l.fn.nodes.items;
  ends : l.self.ends.items ++ map (λ x. x.lanes.ends) l.nodes.items ≡ l.fn.self.ends.items ++ map (λ x. x.lanes.ends) l.fn.nodes.items;
}

abbrev pub decreases-loop-node : goal.decreases-loop-node
decreases-loop-node l = length l.nodes.items
