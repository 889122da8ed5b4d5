use Rattle.csp_telling.proofs.Returned.{all_returned}
use Rattle.csp_telling.proofs.buffers.returns_all.Goals as goal

pub returns : goal.returns
returns c = λ scene n posts all ranges links net remains. all_returned c.puts_leaders_first.ensures.led c.puts_leaders_first.ensures.hubs c.names_parties_apart.ensures c.use_their_own.ensures scene (c.stays_home.ensures scene ranges links) n posts all net remains
