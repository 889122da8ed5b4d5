use Rattle.std.proofs.Common.{◌≡◌, Some}
use Rattle.std.proofs.lemmas.List.Elements.{All-pop}
use Rattle.csp_buffer.specs.PlainBuffer.{PlainBuffer}
use Rattle.csp_queue_tests.proofs.inboxes.put_next.Goals as goal

pub returns-in-Err-clause-region : goal.returns-in-Err-clause-region
returns-in-Err-clause-region g c =
    (All-pop (λ (b : PlainBuffer). b.region ≡ c.args.pass.now.role.token.name) c.args.from.now.items c.pop.new.self.items (Some c.in-Some.buffer) c.in-Some.ensures.items c.requires.region).0
