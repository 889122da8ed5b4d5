use Rattle.csp_standing.proofs.InScene.{of_scene}
use Rattle.csp_standing.proofs.laws.stands_in_scene.Goals as goal

pub returns : goal.returns
returns c = λ scene n posts ranges links net. of_scene scene n posts net c.puts_leaders_first.ensures.hubs (c.joins_parties.ensures scene ranges links) (c.wires_lanes.ensures scene ranges links)
