use Rattle.csp_iface.proofs.iface.Iface.take_answer.Goals as goal

pub told_no_buffer-requires-clause-unwritten : goal.told_no_buffer-requires-clause-unwritten
told_no_buffer-requires-clause-unwritten c = c.requires.unwritten

pub told_pushed-requires-clause-stock : goal.told_pushed-requires-clause-stock
told_pushed-requires-clause-stock c = c.requires.stock

pub told_full-requires-clause-unwritten : goal.told_full-requires-clause-unwritten
told_full-requires-clause-unwritten c = c.requires.unwritten

pub told_popped-requires-clause-countable : goal.told_popped-requires-clause-countable
told_popped-requires-clause-countable c = c.requires.countable

pub told_popped-requires-clause-unwritten : goal.told_popped-requires-clause-unwritten
told_popped-requires-clause-unwritten c = c.requires.unwritten

pub told_popped-requires-clause-stock : goal.told_popped-requires-clause-stock
told_popped-requires-clause-stock c = c.requires.stock

pub returns-in-Popped-clause-few : goal.returns-in-Popped-clause-few
returns-in-Popped-clause-few c = c.told_popped.ensures.few

pub returns-in-Popped-clause-room : goal.returns-in-Popped-clause-room
returns-in-Popped-clause-room c = c.told_popped.ensures.room

pub returns-in-Popped-clause-least : goal.returns-in-Popped-clause-least
returns-in-Popped-clause-least c = c.told_popped.ensures.least

pub returns-in-Popped-clause-most : goal.returns-in-Popped-clause-most
returns-in-Popped-clause-most c = c.told_popped.ensures.most
