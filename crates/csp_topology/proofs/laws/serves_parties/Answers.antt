use Rattle.csp_topology.proofs.Serving.{all_served, inboxes_used}
use Rattle.csp_topology.proofs.laws.serves_parties.Goals as goal

pub returns-clause-queues : goal.returns-clause-queues
returns-clause-queues c = all_served

pub returns-clause-inboxes : goal.returns-clause-inboxes
returns-clause-inboxes c = inboxes_used
