use Rattle.csp_world.proofs.ReachedLemmas.{reached_inboxes, reached_lanes, reached_logs, reached_numbers}
use Rattle.csp_world.proofs.laws.holds_parts.Goals as goal

pub returns : goal.returns
returns c = record {
  runs = reached_logs;
  lanes = reached_lanes c.opens.ensures.stands c.keeps_shape.ensures.queues c.keeps_shape.ensures.shape;
  inboxes = reached_inboxes c.opens.ensures.stands c.keeps_shape.ensures.queues c.keeps_shape.ensures.shape;
  numbers = reached_numbers c.keeps_shape.ensures.queues;
}
