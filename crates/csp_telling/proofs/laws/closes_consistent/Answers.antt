use Rattle.csp_consistent.specs.Told.{AreQueuesTold}
use Rattle.csp_telling.proofs.Logs.{are_logs}
use Rattle.csp_telling.proofs.QueuesTold.{queues_told}
use Rattle.csp_telling.proofs.laws.closes_consistent.Goals as goal

pub returns : goal.returns
returns c = λ scene n posts r is links net closed.
    let logs = are_logs scene n posts r net closed in
    let told : AreQueuesTold scene r = queues_told scene n posts r
    (record { net = net; closed = closed; counted = c.orders_wires.ensures.count scene; ordered = c.orders_wires.ensures.order scene is links })
    (record {
      wires = c.wires_lanes.ensures scene is links;
      hubs = c.puts_leaders_first.ensures.hubs scene;
      apart = c.names_parties_apart.ensures scene;
      uses = c.use_their_own.ensures scene r.parties logs;
    }) in
    let lanes = c.keeps_promises.ensures.lanes scene r is logs told in
    record {
      runs = logs;
      lanes = lanes;
      inboxes = c.keeps_promises.ensures.inboxes scene r is logs told;
      numbers = c.keeps_promises.ensures.numbers scene r is logs told;
      links = c.applies_plans.ensures scene r logs;
      hubs = c.spreads_by_plans.ensures scene r logs;
      origins = c.names_origins.ensures scene r links logs lanes;
    }
