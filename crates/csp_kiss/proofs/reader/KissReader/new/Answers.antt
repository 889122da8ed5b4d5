use Rattle.csp_kiss.specs.Reading.{reading_of, reading_at}
use Rattle.csp_kiss.proofs.Steps.{answers-unread}
use Rattle.csp_kiss.proofs.reader.KissReader.new.Goals as goal
use Rattle.std.proofs.Common.{rules}

pub returns-clause-nothing : goal.returns-clause-nothing
unfolding reading_of reading_at
returns-clause-nothing c = search rules

pub returns-clause-whole : goal.returns-clause-whole
returns-clause-whole c stream = rw c.new.ensures (answers-unread c.args.cover c.args.mtu stream)
