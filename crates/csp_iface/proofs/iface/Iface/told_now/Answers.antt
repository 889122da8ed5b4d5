use Rattle.std.proofs.Common.{ap, ◌∙◌, arith}
use Rattle.csp_iface.specs.PlainIface.{IfaceAt}
use Rattle.csp_log.specs.Pictures.{shown_answer}
use Rattle.csp_iface.proofs.StepLaws.{rests}
use Rattle.csp_iface.proofs.iface.Iface.told_now.Goals as goal

pub read_on-requires : goal.read_on-requires
read_on-requires c = ap (λ (a : IfaceAt). a.iface.doing) c.take_answer-refused.ensures.state ∙ rests c.args.self.now.iface c.args.now (shown_answer c.args.answer)

pub take_answer-refused-requires-clause-fits : goal.take_answer-refused-requires-clause-fits
take_answer-refused-requires-clause-fits c = c.requires.fits

pub take_answer-refused-requires-clause-of_it : goal.take_answer-refused-requires-clause-of_it
take_answer-refused-requires-clause-of_it c = c.requires.of_it

pub take_answer-refused-requires-clause-countable : goal.take_answer-refused-requires-clause-countable
take_answer-refused-requires-clause-countable c = c.requires.countable

pub take_answer-refused-requires-clause-unwritten : goal.take_answer-refused-requires-clause-unwritten
take_answer-refused-requires-clause-unwritten c = c.requires.unwritten

pub take_answer-refused-requires-clause-stock : goal.take_answer-refused-requires-clause-stock
take_answer-refused-requires-clause-stock c = c.requires.stock

pub overflow_add-count : goal.overflow_add-count
overflow_add-count c = omega arith

pub returns-then-count-gt0-clause-least : goal.returns-then-count-gt0-clause-least
returns-then-count-gt0-clause-least c = omega arith

pub returns-then-count-gt0-clause-most : goal.returns-then-count-gt0-clause-most
returns-then-count-gt0-clause-most c = omega arith

pub returns-else-count-gt0-clause-least : goal.returns-else-count-gt0-clause-least
returns-else-count-gt0-clause-least c = omega arith

pub returns-else-count-gt0-clause-most : goal.returns-else-count-gt0-clause-most
returns-else-count-gt0-clause-most c = omega arith
