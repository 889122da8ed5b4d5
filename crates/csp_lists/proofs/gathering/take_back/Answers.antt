use Rattle.std.proofs.Common.{◌≡◌}
use Rattle.std.proofs.lemmas.List.Elements.{All-push}
use Rattle.csp_lists.proofs.gathering.take_back.Goals as goal

pub returns-in-Packet-clause-of_it : goal.returns-in-Packet-clause-of_it
returns-in-Packet-clause-of_it c = λ r of_it all. rw c.push_reserved-in-Packet.ensures.items (All-push (λ b. b.region ≡ r) c.args.into.now.items c.in-Packet.buffer all (rw c.in-Packet.is at of_it))
