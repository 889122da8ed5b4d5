use Rattle.csp_node.proofs.Staying.{all_ready}
use Rattle.csp_node.proofs.laws.meets_ready.Goals as goal
use Rattle.csp_standing.specs.Fabrics.{network_of}

pub returns : goal.returns
returns c = λ scene f limit now posts met h early room heard.
    all_ready scene f limit now posts met h early room heard (c.meetings_keep_network.ensures scene (network_of f) posts met heard h.fabric.network)
