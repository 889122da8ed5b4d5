use Rattle.csp_ordinary.proofs.Headers.{fetched_words}
use Rattle.csp_ordinary.proofs.words.hold_fetched.Goals as goal

pub returns : goal.returns
returns c = fetched_words c.args.log.now.entries c.len-len.ensures.words
