use Rattle.csp_kiss.proofs.Gaining.{read_besides, gains}
use Rattle.csp_kiss.proofs.reader.KissReader.read_on.Goals as goal

pub returns-clause-read : goal.returns-clause-read
returns-clause-read c stream h =
    read_besides stream c.args.bytes.now c.args.self.now _ _ h c.follow.ensures.state c.follow.ensures.left

pub returns-clause-events : goal.returns-clause-events
returns-clause-events c stream h =
    gains stream c.args.bytes.now c.args.self.now _ _ _ h c.follow.ensures.refused c.follow.ensures.packet c.follow.ensures.left
