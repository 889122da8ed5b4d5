-- What other crates may cite of the proofs of this one.

-- what comes of each step of ports, and that it neither loses a buffer nor counts further than it may
pub use Rattle.csp_ports.proofs.Conserving.{flows_none, flows_replaced, flows_timed}
-- what follows a step of a machine counts no further
pub use Rattle.csp_ports.proofs.Counting.{all_or}
-- no step of ports loses a buffer or uses it twice, and none counts further than it may
pub use Rattle.csp_ports.proofs.Flowing.{Flows, flows_machine, flows_then, machine_later, machine_whole, whole_at}
-- the buffers that ports hold: of each slot the packet that waits, then those of its machine
pub use Rattle.csp_ports.proofs.Holding.{wishes-none}
-- what comes of packets, tasks, and what applications ask: that it neither loses a buffer nor counts further than it may
pub use Rattle.csp_ports.proofs.Serving.{flows_answered, flows_connected, flows_delivered, flows_ended, flows_handed, flows_invited, flows_submitted, keeps_again, keeps_made, now_taken}
-- the packet that waits for room, by cases
pub use Rattle.csp_ports.proofs.Settling.{by_dropped, by_settled}
-- what is kept of slots: their terms, their machines, and the packets that wait
pub use Rattle.csp_ports.proofs.Slots.{held_terms, machine_beside, machine_listed, machine_none, machine_now, machine_unstalled, machines_of_machine, machines_of_stalled, machines_of_terms, stalled_beside, stalled_machine, stalled_now, stalled_terms, terms_beside, terms_listed, terms_now, terms_of_machine, terms_of_stalled, terms_of_terms}
-- how many packets wait
pub use Rattle.csp_ports.proofs.Stalling.{none_stalled}
-- buffers are counted: how often one number is among theirs, or how many they are
pub use Rattle.csp_ports.proofs.Weighing.{tally, tally_append, tally_none, tally_same, weight}
-- machines that are whole
pub use Rattle.csp_ports.proofs.Wholes.{admitted_whole, closed_whole, idle_whole, sent_whole, ticked_whole}
-- the answers that are still to come at the slots of an application
pub use Rattle.csp_ports.proofs.Wishing.{wishes_earlier, wishes_later}
