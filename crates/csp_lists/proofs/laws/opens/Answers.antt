use Rattle.csp_lists.proofs.Counting.{opened_numbers, opened_stands, opened_queues}
use Rattle.csp_lists.proofs.laws.opens.Goals as goal

pub returns : goal.returns
returns c = record { numbers = opened_numbers; stands = opened_stands; queues = opened_queues }
